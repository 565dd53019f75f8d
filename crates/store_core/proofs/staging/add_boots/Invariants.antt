use Rattle.std.specs.Option.{option_copied}
use Rattle.stamp_lanes.specs.Stamps.{node_cmp}
use Rattle.store_core.proofs.Rowed.{boot_payloads}
use Rattle.store_core.proofs.Walking.{IsWalked}
use Rattle.store_core.proofs.staging.add_boots.Given as goal

abbrev pub invariant-loop-count : goal.invariant-loop-count
invariant-loop-count g l = IsWalked node_cmp l.tables.tables (boot_payloads l.now) l.tables.tables.nodes (option_copied l.place) l.count l.fn.journal l.journal
