use Rattle.store_payloads.proofs.Readings.{reads_commands, reads_rows}
use Rattle.store_payloads.proofs.Snapshots.{reads_snapshot, spells_today}
use Rattle.store_payloads.proofs.OldBoots.{reads_old_boots, reads_old_rows}
use Rattle.store_payloads.proofs.Outcomes.{keeps_fit}
use Rattle.store_payloads.proofs.Telling.{answers_fit}
use Rattle.store_payloads.proofs.law.payload_law.Goals as goal

pub returns : goal.returns
returns c = record { commands = reads_commands c.command_law.ensures.reads; rows = reads_rows; snapshot = reads_snapshot reads_rows; today = spells_today reads_rows; old_boots = reads_old_boots (reads_commands c.command_law.ensures.reads); old_rows = reads_old_rows reads_rows; fits = keeps_fit; answers = answers_fit }
