-- What a prepared command comes to, and the memory that it finds ready. Own.
use Rattle.std.specs.Prelude.{◌≤◌, true}
use Rattle.stamp_lanes.specs.declared.answer.LaneAnswer.TheVariants as lane_answers
use Rattle.stamp_lanes.specs.Prepared.{space_of, node_of}
use Rattle.state_rows.specs.Prepared.{after_tx}
use Rattle.store_tables.specs.declared.prepared.Step.{Step}
use Rattle.store_tables.specs.declared.prepared.Step.TheVariants.{Boot, Tx, PutReminder, DeleteReminder, Fired}
use Rattle.store_tables.specs.declared.prepared.PreparedCommand.{PreparedCommand}
use Rattle.store_tables.specs.Tables.{Tables, TablesState, Outcome, told_or, stamp_answer, accepted, boot_outcome, put_outcome, delete_outcome, fired_outcome}

abbrev pub step_outcome : Step → Tables → Outcome
step_outcome (Boot boot) t = boot_outcome (space_of boot) (node_of boot) t
step_outcome (Tx s tx) t = told_or (stamp_answer s t) (accepted s (lane_answers.Done true) (record t { rows = after_tx tx t.rows }))
step_outcome (PutReminder s actor name reminder) t = told_or (stamp_answer s t) (put_outcome s actor name reminder t)
step_outcome (DeleteReminder s actor name) t = told_or (stamp_answer s t) (delete_outcome s actor name t)
step_outcome (Fired s actor name moment at) t = told_or (stamp_answer s t) (fired_outcome s actor name moment at t)

-- what it comes to at these tables
unfoldable pub prepared_outcome : PreparedCommand → Tables → Outcome
prepared_outcome p t = step_outcome p.step t

abbrev pub StepRoom : Step → TablesState → Type 0
StepRoom (Boot boot) a = Unit {0}
StepRoom (Tx s tx) a = 1 ≤ a.stamp_room
StepRoom (PutReminder s actor name reminder) a = (1 ≤ a.stamp_room) × (1 ≤ a.reminder_room)
StepRoom (DeleteReminder s actor name) a = 1 ≤ a.stamp_room
StepRoom (Fired s actor name moment at) a = 1 ≤ a.stamp_room

-- there is memory for the stamp and the reminder that it adds
unfoldable pub HasRoom : PreparedCommand → TablesState → Type 0
HasRoom p a = StepRoom p.step a
