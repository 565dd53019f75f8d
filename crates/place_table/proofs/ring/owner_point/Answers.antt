use Rattle.std.proofs.Common.{arith, ◌<◌, ◌≤◌, length}
use Rattle.place_table.proofs.RingSteps.{least_back, least_from_back}
use Rattle.place_table.proofs.ring.owner_point.Goals as goal

pub loop-i-preserved : goal.loop-i-preserved
loop-i-preserved c =
    let above : 0 < c.loop-i.i = omega arith in
    let within : c.loop-i.i ≤ length c.args.points.now = c.loop-i.invariant.0 in (
      omega arith,
      rw c.lesser_from-from.ensures (least_from_back c.args.points.now c.args.place c.loop-i.i c.index-points-i.result c.loop-i.from above within c.index-points-i.is c.loop-i.invariant.1),
      rw c.lesser-all.ensures (least_back c.args.points.now c.loop-i.i c.index-points-i-in-loop-i.result c.loop-i.all above within c.index-points-i-in-loop-i.is c.loop-i.invariant.2),
    )
