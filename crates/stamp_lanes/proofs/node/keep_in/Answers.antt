use Rattle.std.proofs.Common.{◌≡◌, Some, None, sym, ◌∙◌}
use Rattle.stamp_lanes.specs.Lanes.{at_part, lane_at, IsLane}
use Rattle.lists_and_limits.proofs.Each.{each_found}
use Rattle.stamp_lanes.proofs.LaneFacts.{cut_part, cut_lane, order-without, kept-new, kept-there}
use Rattle.stamp_lanes.proofs.node.keep_in.Goals as goal

pub take-requires : goal.take-requires
take-requires c = cut_part c.args.part c.args.lanes.now c.requires.order

pub put-requires : goal.put-requires
put-requires c = rw c.take.ensures.rest (cut_lane c.longer-lane.result.value.element _ (order-without c.args.part c.args.lanes.now c.requires.order))

pub longer-lane-requires-in-Some : goal.longer-lane-requires-in-Some
longer-lane-requires-in-Some c =
    let i = each_found IsLane (at_part c.args.part) c.args.lanes.now c.in-Some.old.value.element (sym c.in-Some.ensures.taken) c.requires.each in
    i.fits

pub put-requires-in-Some : goal.put-requires-in-Some
put-requires-in-Some c = rw c.take.ensures.rest (cut_lane c.longer-lane-in-Some.result.value.element _ (order-without c.args.part c.args.lanes.now c.requires.order))

pub returns-in-None : goal.returns-in-None
returns-in-None c =
    let none : lane_at c.args.part c.args.lanes.now ≡ None = sym c.in-None.ensures.taken in
    c.put.ensures
    ∙ rw (c.longer-lane.ensures, c.begun.ensures, c.take.ensures.rest)
    (kept-new c.args.part c.args.lanes.now c.requires.order c.args.kept none)

pub returns-in-Some : goal.returns-in-Some
returns-in-Some c =
    let there : lane_at c.args.part c.args.lanes.now ≡ Some c.in-Some.old.value.element = sym c.in-Some.ensures.taken in
    c.put-in-Some.ensures
    ∙ rw (c.longer-lane-in-Some.ensures, c.take.ensures.rest)
    (kept-there c.args.part c.args.lanes.now c.requires.order c.args.kept c.in-Some.old.value.element there)
