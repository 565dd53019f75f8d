use Rattle.stamp_lanes.proofs.LaneFacts.{cut_part}
use Rattle.stamp_lanes.proofs.node.look_in.Goals as goal

pub get-requires : goal.get-requires
get-requires c = cut_part c.args.part c.args.lanes.now c.requires
