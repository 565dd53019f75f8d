use Rattle.std.specs.Option.{option_copied}
use Rattle.stamp_lanes.proofs.NodeFacts.{cut_after_node}
use Rattle.stamp_lanes.proofs.lanes.StampLanes.next_node.Goals as goal

pub next-requires : goal.next-requires
next-requires c = cut_after_node (option_copied c.args.after) c.self.inside.tree c.self.invariant.order
