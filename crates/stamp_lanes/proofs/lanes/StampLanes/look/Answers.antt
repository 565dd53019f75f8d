use Rattle.std.proofs.Common.{sym}
use Rattle.stamp_lanes.specs.Stamps.{at_node, IsNode}
use Rattle.lists_and_limits.proofs.Each.{each_found}
use Rattle.stamp_lanes.proofs.NodeFacts.{cut_node}
use Rattle.stamp_lanes.proofs.lanes.StampLanes.look.Goals as goal

pub get-requires : goal.get-requires
get-requires c = cut_node c.args.member.now.space c.args.member.now.node c.self.inside.tree c.self.invariant.order

pub look_in-requires : goal.look_in-requires
look_in-requires c = let n = each_found IsNode (at_node c.args.member.now.space c.args.member.now.node) c.self.inside.tree c.in-Some.node.now (sym c.in-Some.ensures) c.self.invariant.each in n.order
