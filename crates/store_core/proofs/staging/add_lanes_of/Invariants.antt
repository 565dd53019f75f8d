use Rattle.std.specs.Option.{option_copied}
use Rattle.stamp_lanes.specs.Lanes.{lane_cmp}
use Rattle.stamp_lanes.specs.Restores.{member_of}
use Rattle.store_core.proofs.Rowed.{member_payloads}
use Rattle.store_core.proofs.Walking.{IsWalked}
use Rattle.store_core.proofs.staging.add_lanes_of.Given as goal

abbrev pub invariant-loop-count : goal.invariant-loop-count
invariant-loop-count g l = IsWalked lane_cmp l.tables.tables (member_payloads l.now (member_of l.node)) l.node.lanes (option_copied l.place) l.count l.fn.journal l.journal
