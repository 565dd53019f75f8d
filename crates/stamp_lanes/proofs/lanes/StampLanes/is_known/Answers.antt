use Rattle.stamp_lanes.proofs.NodeFacts.{cut_node}
use Rattle.stamp_lanes.proofs.lanes.StampLanes.is_known.Goals as goal

pub get-requires : goal.get-requires
get-requires c = cut_node c.args.space.now c.args.node.now c.self.inside.tree c.self.invariant.order
