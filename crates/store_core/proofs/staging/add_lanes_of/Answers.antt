use Rattle.std.proofs.Common.{Some, None, subst}
use Rattle.std.specs.Option.{option_copied}
use Rattle.std.proofs.lemmas.Result.{err_from_is_err_and}
use Rattle.stamp_lanes.specs.Lanes.{lane_cmp}
use Rattle.stamp_lanes.specs.Restores.{member_of}
use Rattle.stamp_lanes.specs.Stamps.{IsNode}
use Rattle.stamp_lanes.specs.Orders.{lanes_total}
use Rattle.std.specs.List.{AllByRecursion as Each}
use Rattle.lists_and_limits.proofs.Each.{each_at, each_found}
use Rattle.store_payloads.specs.Fits.{LaneFits}
use Rattle.store_core.proofs.Rowed.{member_payloads, members_are, next_lane_is, part_is}
use Rattle.store_core.proofs.Stagings.{stopped}
use Rattle.store_core.proofs.Adding.{may_staged}
use Rattle.store_core.proofs.Walking.{walked_none, walked_all, walked_more, walked_miss, rest, here}
use Rattle.store_core.proofs.staging.add_lanes_of.Goals as goal

pub loop-count-init : goal.loop-count-init
loop-count-init g c = walked_none lane_cmp lanes_total c.args.tables.now.tables (member_payloads c.args.now (member_of c.args.node.now)) (members_are c.args.now (member_of c.args.node.now)) c.args.node.now.lanes (each_found IsNode _ c.args.tables.now.tables.nodes c.args.node.now c.requires.known c.order_law.ensures.lanes).order c.args.journal.now c.requires.may c.requires.consistent

pub returns-in_default-clause-adds : goal.returns-in_default-clause-adds
returns-in_default-clause-adds g c = walked_all lane_cmp lanes_total c.args.tables.now.tables (member_payloads c.args.now (member_of c.args.node.now)) (members_are c.args.now (member_of c.args.node.now)) c.args.node.now.lanes (each_found IsNode _ c.args.tables.now.tables.nodes c.args.node.now c.requires.known c.order_law.ensures.lanes).order (option_copied c.loop-count.place) c.loop-count.count c.args.journal.now c.loop-count.journal (next_lane_is (option_copied c.loop-count.place) None c.part_of.result _ c.args.node.now (part_is (option_copied c.loop-count.place) c.part_of.result c.part_of.ensures.some c.part_of.ensures.none) c.requires.known c.in_default.ensures) c.loop-count.invariant

pub returns-in_default-clause-may : goal.returns-in_default-clause-may
returns-in_default-clause-may g c = may_staged c.args.tables.now.tables _ c.args.journal.now c.loop-count.journal c.requires.may c.loop-count.invariant.staged

pub add_lane-requires-clause-may : goal.add_lane-requires-clause-may
add_lane-requires-clause-may g c = may_staged c.args.tables.now.tables _ c.args.journal.now c.loop-count.journal c.requires.may c.loop-count.invariant.staged

pub add_lane-requires-clause-fits : goal.add_lane-requires-clause-fits
add_lane-requires-clause-fits g c =
    each_at (LaneFits c.args.node.now) c.loop-count.invariant.front c.in-Some.lane.now (rest lane_cmp lanes_total c.args.tables.now.tables (member_payloads c.args.now (member_of c.args.node.now)) (members_are c.args.now (member_of c.args.node.now)) c.args.node.now.lanes (each_found IsNode _ c.args.tables.now.tables.nodes c.args.node.now c.requires.known c.order_law.ensures.lanes).order (option_copied c.loop-count.place) c.loop-count.count c.in-Some.lane.now c.args.journal.now c.loop-count.journal c.requires.may.paired (next_lane_is (option_copied c.loop-count.place) (Some c.in-Some.lane.now) c.part_of.result _ c.args.node.now (part_is (option_copied c.loop-count.place) c.part_of.result c.part_of.ensures.some c.part_of.ensures.none) c.requires.known c.in-Some.ensures) c.loop-count.invariant).0 (subst (Each (LaneFits c.args.node.now)) (here lane_cmp lanes_total c.args.tables.now.tables (member_payloads c.args.now (member_of c.args.node.now)) (members_are c.args.now (member_of c.args.node.now)) c.args.node.now.lanes (each_found IsNode _ c.args.tables.now.tables.nodes c.args.node.now c.requires.known c.order_law.ensures.lanes).order (option_copied c.loop-count.place) c.loop-count.count c.in-Some.lane.now c.args.journal.now c.loop-count.journal c.requires.may.paired (next_lane_is (option_copied c.loop-count.place) (Some c.in-Some.lane.now) c.part_of.result _ c.args.node.now (part_is (option_copied c.loop-count.place) c.part_of.result c.part_of.ensures.some c.part_of.ensures.none) c.requires.known c.in-Some.ensures) c.loop-count.invariant) c.requires.fits)

pub returns-in_err-add_lane-clause-adds : goal.returns-in_err-add_lane-clause-adds
returns-in_err-add_lane-clause-adds g c =
    let p = err_from_is_err_and c.from_residual.result c.from_residual.ensures.1 in
    rw (p.1, p.2)
    (walked_miss lane_cmp lanes_total c.args.tables.now.tables (member_payloads c.args.now (member_of c.args.node.now)) (members_are c.args.now (member_of c.args.node.now)) c.args.node.now.lanes (each_found IsNode _ c.args.tables.now.tables.nodes c.args.node.now c.requires.known c.order_law.ensures.lanes).order (option_copied c.loop-count.place) c.loop-count.count c.in-Some.lane.now c.args.journal.now c.loop-count.journal c.requires.may.paired (next_lane_is (option_copied c.loop-count.place) (Some c.in-Some.lane.now) c.part_of.result _ c.args.node.now (part_is (option_copied c.loop-count.place) c.part_of.result c.part_of.ensures.some c.part_of.ensures.none) c.requires.known c.in-Some.ensures) c.loop-count.invariant _ c.add_lane.new.journal (c.in_err-add_lane.ensures.adds c.args.tables.now.tables c.loop-count.invariant.staged.consistent))

pub returns-in_err-add_lane-clause-may : goal.returns-in_err-add_lane-clause-may
returns-in_err-add_lane-clause-may g c = let p = err_from_is_err_and c.from_residual.result c.from_residual.ensures.1 in rw p.1 tt

pub loop-count-preserved : goal.loop-count-preserved
loop-count-preserved g c = walked_more lane_cmp lanes_total c.args.tables.now.tables (member_payloads c.args.now (member_of c.args.node.now)) (members_are c.args.now (member_of c.args.node.now)) c.args.node.now.lanes (each_found IsNode _ c.args.tables.now.tables.nodes c.args.node.now c.requires.known c.order_law.ensures.lanes).order (option_copied c.loop-count.place) c.loop-count.count c.in-Some.lane.now c.args.journal.now c.loop-count.journal c.requires.may.paired (next_lane_is (option_copied c.loop-count.place) (Some c.in-Some.lane.now) c.part_of.result _ c.args.node.now (part_is (option_copied c.loop-count.place) c.part_of.result c.part_of.ensures.some c.part_of.ensures.none) c.requires.known c.in-Some.ensures) c.loop-count.invariant c.add_lane.new.journal (c.in_ok-add_lane.ensures.adds c.args.tables.now.tables c.loop-count.invariant.staged.consistent)

pub returns-clause-adds : goal.returns-clause-adds
returns-clause-adds g c = stopped c.args.tables.now.tables _ c.args.journal.now c.loop-count.journal c.loop-count.journal c.requires.may.paired c.loop-count.invariant.staged
