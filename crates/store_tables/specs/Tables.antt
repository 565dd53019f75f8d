-- What a store contains, and what a command is answered and makes of it. Own; state and reminders follow the Actors API
-- of Dapr.
use Rattle.std.specs.Prelude.{ℕ, ◌*◌, ◌+◌, true, List, [], Option, None, Some, is_some, Result, Ok, Err}
use Rattle.actor_names.specs.declared.actor_key.ActorKey.{ActorKey}
use Rattle.schedule_text.specs.declared.advance.Next.{Next}
use Rattle.state_rows.specs.declared.entry.StateEntry.{StateEntry}
use Rattle.state_rows.specs.declared.error.StateError.{StateError}
use Rattle.state_rows.specs.declared.error.StateError.TheVariants as state_errors
use Rattle.state_rows.specs.declared.op.StateOp.{StateOp}
use Rattle.state_rows.specs.Checks.{ops_fault}
use Rattle.state_rows.specs.Entries.{value_at, after_ops}
use Rattle.reminder_rows.specs.declared.reminder.Reminder.{Reminder}
use Rattle.reminder_rows.specs.declared.row.ReminderRow.{ReminderRow}
use Rattle.reminder_rows.specs.declared.error.FiredError.{FiredError}
use Rattle.reminder_rows.specs.declared.error.FiredError.TheVariants as fired_errors
use Rattle.reminder_rows.specs.Reminders.{row_at, without_row, reminder_in, put_row, fired_answer, fired_rows}
use Rattle.stamp_lanes.specs.declared.answer.LaneAnswer.{LaneAnswer}
use Rattle.stamp_lanes.specs.declared.answer.LaneAnswer.TheVariants as lane_answers
use Rattle.stamp_lanes.specs.declared.answer.StampLook.{StampLook}
use Rattle.stamp_lanes.specs.declared.answer.StampLook.TheVariants.{Fresh, Kept}
use Rattle.stamp_lanes.specs.declared.error.StampError.{StampError}
use Rattle.stamp_lanes.specs.declared.error.StampError.TheVariants as stamp_errors
use Rattle.stamp_lanes.specs.declared.error.BootError.{BootError}
use Rattle.stamp_lanes.specs.declared.error.BootError.TheVariants as boot_errors
use Rattle.stamp_lanes.specs.declared.node.NodeLanes.{NodeLanes}
use Rattle.stamp_lanes.specs.Stamps.{greatest_boot, draw_fault, after_draw, look, after_accept}
use Rattle.frame_wire.specs.declared.store_command.StoreCommand.{StoreCommand}
use Rattle.frame_wire.specs.declared.store_command.StoreCommand.TheVariants.{Boot, Tx, Get, PutReminder, GetReminder, DeleteReminder, Due, Fired}
use Rattle.frame_wire.specs.declared.store_command.Stamp.{Stamp}
use Rattle.frame_wire.specs.declared.store_answer.StoreAnswer.{StoreAnswer}
use Rattle.frame_wire.specs.declared.store_answer.StoreAnswer.TheVariants.{Booted, Done, Value, NotThere, ReminderIs, DueList, NextIs, Refused}
use Rattle.frame_wire.specs.declared.store_refusal.StoreRefusal.{StoreRefusal}
use Rattle.frame_wire.specs.declared.store_refusal.StoreRefusal.TheVariants as refusals
use Rattle.store_tables.specs.Dues.{due_list}

-- the nodes with their boots and lanes, the state, the reminders
pub record Tables : Type 0 where
  pub nodes : List NodeLanes
  pub rows : List StateEntry
  pub reminders : List ReminderRow

-- nothing yet
abbrev pub no_tables : Tables
no_tables = record { nodes = []; rows = []; reminders = [] }

-- the tables, and the number of stamps and of reminders for which there is memory already
pub record TablesState : Type 0 where
  pub stamp_room : ℕ
  pub reminder_room : ℕ
  pub tables : Tables

-- A command is told an answer and changes nothing, or it is accepted: then it has this answer, and leaves these tables.
pub data Outcome : Type 0 where
  Told : (answer : StoreAnswer) → Outcome
  Accepted : (answer : StoreAnswer) → (after : Tables) → Outcome

-- the answer to a command that isn't accepted
abbrev pub told_in : Outcome → Option StoreAnswer
told_in (Told answer) = Some answer
told_in (Accepted answer after) = None

-- told this answer, if there is one, and otherwise what follows
abbrev pub told_or : Option StoreAnswer → Outcome → Outcome
told_or None otherwise = otherwise
told_or (Some answer) otherwise = Told answer

-- an answer that carries values
abbrev pub HasValues : StoreAnswer → Type 0
HasValues (Booted n) = ⊥
HasValues (Done existed) = ⊥
HasValues (Value value) = Unit {0}
HasValues NotThere = ⊥
HasValues (ReminderIs due period ttl payload) = Unit {0}
HasValues (DueList entries) = Unit {0}
HasValues (NextIs next) = ⊥
HasValues (Refused r) = ⊥

-- what takes memory: what is accepted, and an answer that carries values
abbrev pub TakesMemory : Outcome → Type 0
TakesMemory (Told answer) = HasValues answer
TakesMemory (Accepted answer after) = Unit {0}

-- nanoseconds of a moment in milliseconds
abbrev pub nanos_of : ℕ → ℕ
nanos_of now = now * 1000000

-- ---- stamps

-- an answer that a lane keeps
abbrev pub kept_as : LaneAnswer → StoreAnswer
kept_as (lane_answers.Done existed) = Done existed
kept_as (lane_answers.NextIs next) = NextIs next

abbrev pub stamp_refusal : StampError → StoreRefusal
stamp_refusal (stamp_errors.OtherBoot greatest) = refusals.OtherBoot greatest
stamp_refusal (stamp_errors.OldSeq floor) = refusals.OldSeq floor

-- what a stamp that isn't fresh is told
abbrev pub look_answer : Result StampLook StampError → Option StoreAnswer
look_answer (Err e) = Some (Refused (stamp_refusal e))
look_answer (Ok (Kept answer)) = Some (kept_as answer)
look_answer (Ok Fresh) = None

abbrev pub stamp_answer : Stamp → Tables → Option StoreAnswer
stamp_answer s t = look_answer (look s.member s.part s.number t.nodes)

-- a stamped command is accepted: its lane keeps the answer
abbrev pub accepted : Stamp → LaneAnswer → Tables → Outcome
accepted s answer t = Accepted (kept_as answer) (record t { nodes = after_accept s.member s.part (record { number = s.number; answer = answer }) t.nodes })

-- ---- boots

abbrev pub boot_refusal : BootError → StoreRefusal
boot_refusal (boot_errors.NodesFull nodes) = refusals.NodesFull nodes
boot_refusal boot_errors.Spent = refusals.Spent
boot_refusal boot_errors.OutOfMemory = refusals.OutOfMemory

abbrev pub boot_answer : Option BootError → Option StoreAnswer
boot_answer None = None
boot_answer (Some e) = Some (Refused (boot_refusal e))

-- the boot above all that were drawn
abbrev pub boot_outcome : List ℕ → List ℕ → Tables → Outcome
boot_outcome space node t = told_or (boot_answer (draw_fault space node t.nodes)) (Accepted (Booted (greatest_boot t.nodes + 1)) (record t { nodes = after_draw space node t.nodes }))

-- ---- state

abbrev pub state_refusal : StateError → StoreRefusal
state_refusal (state_errors.TooManyOps n) = refusals.TooManyOps n
state_refusal (state_errors.KeyTooLong op n) = refusals.KeyTooLong op n
state_refusal (state_errors.ValueTooLong op n) = refusals.ValueTooLong op n
state_refusal state_errors.OutOfMemory = refusals.OutOfMemory

abbrev pub ops_answer : Option StateError → Option StoreAnswer
ops_answer None = None
ops_answer (Some e) = Some (Refused (state_refusal e))

abbrev pub tx_outcome : Stamp → ActorKey → List StateOp → ℕ → Tables → Outcome
tx_outcome s actor ops now t = told_or (ops_answer (ops_fault ops)) (accepted s (lane_answers.Done true) (record t { rows = after_ops actor now ops t.rows }))

abbrev pub value_answer : Option (List ℕ) → StoreAnswer
value_answer None = NotThere
value_answer (Some value) = Value value

-- ---- reminders

abbrev pub reminder_answer : Option Reminder → StoreAnswer
reminder_answer None = NotThere
reminder_answer (Some r) = ReminderIs r.due r.period r.ttl r.payload

abbrev pub put_outcome : Stamp → ActorKey → List ℕ → Reminder → Tables → Outcome
put_outcome s actor name reminder t = accepted s (lane_answers.Done true) (record t { reminders = put_row actor name reminder t.reminders })

-- a delete of nothing is accepted, too
abbrev pub delete_outcome : Stamp → ActorKey → List ℕ → Tables → Outcome
delete_outcome s actor name t = accepted s (lane_answers.Done (is_some (row_at actor name t.reminders))) (record t { reminders = without_row actor name t.reminders })

-- what a firing is told that isn't accepted
abbrev pub fired_refusal : FiredError → StoreAnswer
fired_refusal fired_errors.NotThere = NotThere
fired_refusal (fired_errors.OtherMoment next) = Refused (refusals.OtherMoment next)

abbrev pub by_fired : Result Next FiredError → (Next → Outcome) → Outcome
by_fired (Ok next) fired = fired next
by_fired (Err e) fired = Told (fired_refusal e)

-- the firing of a reminder for a moment, at another one in nanoseconds
abbrev pub fired_outcome : Stamp → ActorKey → List ℕ → ℕ → ℕ → Tables → Outcome
fired_outcome s actor name moment at t =
    by_fired (fired_answer (row_at actor name t.reminders) moment at) (λ next.
    accepted s (lane_answers.NextIs next) (record t { reminders = fired_rows actor name (row_at actor name t.reminders) moment at t.reminders }))

-- ---- commands

-- what a command comes to, at a moment in milliseconds since 1970
unfoldable pub store_outcome : Tables → StoreCommand → ℕ → Outcome
store_outcome t (Boot space node) now = boot_outcome space node t
store_outcome t (Tx s actor ops) now = told_or (stamp_answer s t) (tx_outcome s actor ops now t)
store_outcome t (Get actor key) now = Told (value_answer (value_at actor key now t.rows))
store_outcome t (PutReminder s actor name reminder) now = told_or (stamp_answer s t) (put_outcome s actor name reminder t)
store_outcome t (GetReminder actor name) now = Told (reminder_answer (reminder_in (row_at actor name t.reminders)))
store_outcome t (DeleteReminder s actor name) now = told_or (stamp_answer s t) (delete_outcome s actor name t)
store_outcome t (Due after limit) now = Told (DueList (due_list (nanos_of now) after limit t.reminders))
store_outcome t (Fired s actor name moment) now = told_or (stamp_answer s t) (fired_outcome s actor name moment (nanos_of now) t)
