use Rattle.stamp_lanes.proofs.LaneFacts.{lanes_law}
use Rattle.stamp_lanes.proofs.node.put_in.Goals as goal

pub put-requires : goal.put-requires
put-requires c = let l = lanes_law in l.cut_element c.args.lane.value.element c.args.lanes.now c.requires
