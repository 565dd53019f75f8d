-- The state that an accepted command leaves: only a transaction changes it.
use Rattle.std.proofs.Common.{◌≡◌, ℕ, ◌+◌, true, List, Option, Some, None, refl, subst}
use Rattle.std.specs.Prelude.{Result, Ok, Err}
use Rattle.schedule_text.specs.declared.advance.Next.{Next}
use Rattle.reminder_rows.specs.declared.error.FiredError.{FiredError}
use Rattle.reminder_rows.specs.Reminders.{row_at, fired_answer, fired_rows}
use Rattle.stamp_lanes.specs.declared.answer.LaneAnswer.TheVariants as lane_answers
use Rattle.stamp_lanes.specs.Stamps.{greatest_boot, draw_fault, after_draw}
use Rattle.state_rows.specs.declared.entry.StateEntry.{StateEntry}
use Rattle.state_rows.specs.Checks.{ops_fault}
use Rattle.state_rows.specs.Entries.{after_ops}
use Rattle.frame_wire.specs.declared.store_answer.StoreAnswer.{StoreAnswer}
use Rattle.frame_wire.specs.declared.store_answer.StoreAnswer.TheVariants.{Booted}
use Rattle.frame_wire.specs.declared.store_command.StoreCommand.{StoreCommand}
use Rattle.frame_wire.specs.declared.store_command.StoreCommand.TheVariants.{Boot, Tx, Get, PutReminder, GetReminder, DeleteReminder, Due, Fired}
use Rattle.store_tables.specs.Tables.{Tables, Outcome, Told, Accepted, told_or, nanos_of, stamp_answer, accepted, boot_answer, ops_answer, tx_outcome, put_outcome, delete_outcome, by_fired, fired_outcome, store_outcome}
use Rattle.store_tables.specs.Contents.{Timed, outcome_of}

-- the state after a command, if it is accepted
abbrev pub rows_after : Tables → StoreCommand → ℕ → List StateEntry
rows_after t (Tx s actor ops) now = after_ops actor now ops t.rows
rows_after t c now = t.rows

abbrev HasRows : List StateEntry → Outcome → Type 0
HasRows rows (Told given) = Unit {0}
HasRows rows (Accepted given after) = after.rows ≡ rows

or_rows : (rows : List StateEntry) (told : Option StoreAnswer) (o : Outcome) → HasRows rows o → HasRows rows (told_or told o)
or_rows rows None o has = has
or_rows rows (Some given) o has = tt

fired_has : (rows : List StateEntry) (r : Result Next FiredError) (f : Next → Outcome) → ((n : Next) → HasRows rows (f n)) → HasRows rows (by_fired r f)
fired_has rows (Ok n) f has = has n
fired_has rows (Err e) f has = tt

outcome_rows : (t : Tables) (c : StoreCommand) (now : ℕ) → HasRows (rows_after t c now) (store_outcome t c now)
unfolding store_outcome
outcome_rows t (Boot space node) now = or_rows t.rows (boot_answer (draw_fault space node t.nodes)) (Accepted (Booted (greatest_boot t.nodes + 1)) (record t { nodes = after_draw space node t.nodes })) refl
outcome_rows t (Tx s actor ops) now =
    or_rows (after_ops actor now ops t.rows) (stamp_answer s t) (tx_outcome s actor ops now t)
    (or_rows (after_ops actor now ops t.rows) (ops_answer (ops_fault ops)) (accepted s (lane_answers.Done true) (record t { rows = after_ops actor now ops t.rows })) refl)
outcome_rows t (Get actor key) now = tt
outcome_rows t (PutReminder s actor name reminder) now = or_rows t.rows (stamp_answer s t) (put_outcome s actor name reminder t) refl
outcome_rows t (GetReminder actor name) now = tt
outcome_rows t (DeleteReminder s actor name) now = or_rows t.rows (stamp_answer s t) (delete_outcome s actor name t) refl
outcome_rows t (Due after limit) now = tt
outcome_rows t (Fired s actor name moment) now =
    or_rows t.rows (stamp_answer s t) (fired_outcome s actor name moment (nanos_of now) t)
    (fired_has t.rows (fired_answer (row_at actor name t.reminders) moment (nanos_of now)) (λ next. accepted s (lane_answers.NextIs next) (record t { reminders = fired_rows actor name (row_at actor name t.reminders) moment (nanos_of now) t.reminders })) (λ n. refl))

pub accepted_rows : (t : Tables) (c : Timed) (given : StoreAnswer) (after : Tables) → outcome_of t c ≡ Accepted given after → after.rows ≡ rows_after t c.command c.now
accepted_rows t c given after is = subst (HasRows (rows_after t c.command c.now)) is (outcome_rows t c.command c.now)
