use Rattle.std.specs.Option.{option_copied}
use Rattle.stamp_lanes.specs.Stamps.{node_cmp}
use Rattle.store_core.proofs.Rowed.{lane_payloads}
use Rattle.store_core.proofs.Walking.{IsWalked}
use Rattle.store_core.proofs.staging.add_lanes.Given as goal

abbrev pub invariant-loop : goal.invariant-loop
invariant-loop g l = IsWalked node_cmp l.tables.tables (lane_payloads l.now) l.tables.tables.nodes (option_copied l.place) l.count l.fn.journal l.journal
