use Rattle.std.proofs.Common.{◌≡◌, None, sym}
use Rattle.stamp_lanes.specs.declared.lane.Lane.{Lane}
use Rattle.stamp_lanes.specs.Restores.{lane_row_fault}
use Rattle.stamp_lanes.proofs.NodeFacts.{sound-lane_row}
use Rattle.stamp_lanes.proofs.lanes.StampLanes.restore_lane.Goals as goal

pub invariant_of-self : goal.invariant_of-self
invariant_of-self c =
    let tree = c.self.inside.tree in
    let l : Lane = record { part = c.args.part; floor = c.args.floor; kept = c.args.kept.items } in
    let fine : None ≡ lane_row_fault c.args.member.now c.args.part c.args.kept.items tree = rw (c.as_slice.ensures.value, ← c.self.view_is) at c.in-None.ensures in
    rw (c.put_lane_in.ensures, c.in_ok-lane-in-None.ensures)
    (sound-lane_row c.args.member.now l tree c.self.inside.greatest c.self.inside.count c.self.invariant (sym fine))
