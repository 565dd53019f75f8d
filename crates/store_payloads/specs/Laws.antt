-- What the definitions of payloads mean. Own.
use Rattle.std.specs.Prelude.{◌≡◌, ◌<◌, ℕ, true, false, List, map, None, Some}
use Rattle.wire_fields.specs.Parts.{node_name, boot}
use Rattle.frame_wire.specs.declared.store_answer.StoreAnswer.{StoreAnswer}
use Rattle.frame_wire.specs.declared.store_command.StoreCommand.TheVariants.{Boot as StoreBoot}
use Rattle.frame_wire.specs.Store.{command, AnswerFits}
use Rattle.reminder_rows.specs.Reminders.{AreTimely}
use Rattle.store_tables.specs.declared.row.TableRow.{TableRow}
use Rattle.store_tables.specs.declared.row.TableRow.TheVariants as rows
use Rattle.store_tables.specs.Tables.{Tables, no_tables, Outcome, Told, Accepted}
use Rattle.store_tables.specs.Contents.{Timed, outcome_of}
use Rattle.store_tables.specs.Rows.{Restores, AreInOrder, table_rows}
use Rattle.store_payloads.specs.declared.payload.PayloadBody.TheVariants.{Command, Row}
use Rattle.store_payloads.specs.Fields.{table_row}
use Rattle.store_payloads.specs.Fits.{TablesFit}
use Rattle.store_payloads.specs.Payloads.{end_of_moments, command_payload, row_payload, payload_reading}
use Rattle.store_payloads.specs.FirstForm.{default_name, is_first_form, first_boot, first_boot_row, IsOld}
use Rattle.store_payloads.specs.Folds.{folded_tables}

-- a command that may be sent, at a moment that may be
pub record MayCome (c : Timed) : Type 0 where
  pub command : command.Fits c.command
  pub now : c.now < end_of_moments

-- a command that is spelled is read again
abbrev pub ReadsCommands : Type 0
ReadsCommands = (c : Timed) → MayCome c → payload_reading (command_payload c) ≡ Some (record { now = c.now; body = Command c.command })

-- and so is a row
abbrev pub ReadsRows : Type 0
ReadsRows = (now : ℕ) (r : TableRow) → now < end_of_moments → table_row.Fits r → payload_reading (row_payload now r) ≡ Some (record { now = now; body = Row r })

-- the payloads of a snapshot of tables
abbrev pub snapshot_payloads : ℕ → Tables → List (List ℕ)
snapshot_payloads now t = map (row_payload now) (table_rows t)

-- rows in order that lead to tables are read back to them
abbrev pub ReadsSnapshot : Type 0
ReadsSnapshot =
    (now : ℕ) (t : Tables) → now < end_of_moments → TablesFit t → Restores (table_rows t) no_tables t → AreInOrder None (table_rows t) → folded_tables false true (snapshot_payloads now t) ≡ Some t

-- they aren't of the first form
abbrev pub SpellsToday : Type 0
SpellsToday = (now : ℕ) (t : Tables) → now < end_of_moments → TablesFit t → is_first_form (snapshot_payloads now t) ≡ false

-- a boot of an old file is told by its bytes, and read in the space `default`
abbrev pub ReadsOldBoots : Type 0
ReadsOldBoots = (now : ℕ) (node : List ℕ) → now < end_of_moments → node_name.Fits node → IsOld (first_boot now node) now (Command (StoreBoot default_name node))

-- and so is the row of one
abbrev pub ReadsOldRows : Type 0
ReadsOldRows = (now : ℕ) (node : List ℕ) (n : ℕ) → now < end_of_moments → node_name.Fits node → boot.Fits n → IsOld (first_boot_row now node n) now (Row (rows.Boot default_name node n))

-- a command that may be sent and is accepted leaves tables whose entries fit
abbrev pub KeepsFit : Type 0
KeepsFit = (t : Tables) (c : Timed) (answer : StoreAnswer) (after : Tables) → MayCome c → outcome_of t c ≡ Accepted answer after → TablesFit t → TablesFit after

-- the answer to a command has the forms and ranges of its frame
abbrev pub OutcomeFits : Outcome → Type 0
OutcomeFits (Told answer) = AnswerFits answer
OutcomeFits (Accepted answer after) = AnswerFits answer

-- so it is with every command that may be sent to tables that fit
abbrev pub AnswersFit : Type 0
AnswersFit = (t : Tables) (c : Timed) → MayCome c → TablesFit t → AreTimely t.reminders → OutcomeFits (outcome_of t c)
