use Rattle.std.specs.Option.{option_copied}
use Rattle.state_rows.specs.Entries.{row_cmp}
use Rattle.store_core.proofs.Rowed.{state_payloads}
use Rattle.store_core.proofs.Walking.{IsWalked}
use Rattle.store_core.proofs.staging.add_entries.Given as goal

abbrev pub invariant-loop-count : goal.invariant-loop-count
invariant-loop-count g l = IsWalked row_cmp l.tables.tables (state_payloads l.now) l.tables.tables.rows (option_copied l.place) l.count l.fn.journal l.journal
