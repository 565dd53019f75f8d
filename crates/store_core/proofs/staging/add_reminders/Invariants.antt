use Rattle.std.specs.Option.{option_copied}
use Rattle.reminder_rows.specs.Reminders.{row_cmp}
use Rattle.store_core.proofs.Rowed.{reminder_payloads}
use Rattle.store_core.proofs.Walking.{IsWalked}
use Rattle.store_core.proofs.staging.add_reminders.Given as goal

abbrev pub invariant-loop-count : goal.invariant-loop-count
invariant-loop-count g l = IsWalked row_cmp l.tables.tables (reminder_payloads l.now) l.tables.tables.reminders (option_copied l.place) l.count l.fn.journal l.journal
