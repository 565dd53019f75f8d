use Rattle.std.proofs.Common.{◌≡◌, Some, None, sym, ◌∙◌}
use Rattle.stamp_lanes.specs.Stamps.{at_node, node_at, IsNode}
use Rattle.lists_and_limits.proofs.Each.{each_found}
use Rattle.stamp_lanes.proofs.NodeFacts.{cut_node, cut_at, order-without, lane-none, lane-there}
use Rattle.stamp_lanes.proofs.nodes.put_lane_in.Goals as goal

pub take-requires : goal.take-requires
take-requires c = cut_node c.args.member.now.space c.args.member.now.node c.args.tree.now c.requires.order

pub with_lane-node-requires : goal.with_lane-node-requires
with_lane-node-requires c = each_found IsNode (at_node c.args.member.now.space c.args.member.now.node) c.args.tree.now c.in-Some.old.value.element (sym c.in-Some.ensures.taken) c.requires.each

pub put-requires : goal.put-requires
put-requires c = rw c.take.ensures.rest (cut_at c.with_lane-node.result.value.element _ (order-without c.args.member.now.space c.args.member.now.node c.args.tree.now c.requires.order))

pub returns-in-None : goal.returns-in-None
returns-in-None c =
    let none : node_at c.args.member.now.space c.args.member.now.node c.args.tree.now ≡ None = sym c.in-None.ensures.taken in
    c.take.ensures.rest ∙ lane-none c.args.member.now c.args.lane.value.element c.args.tree.now none

pub returns-in-Some : goal.returns-in-Some
returns-in-Some c =
    let there : node_at c.args.member.now.space c.args.member.now.node c.args.tree.now ≡ Some c.in-Some.old.value.element = sym c.in-Some.ensures.taken in
    c.put.ensures
    ∙ rw (c.with_lane-node.ensures, c.take.ensures.rest)
    (lane-there c.args.member.now c.args.lane.value.element c.args.tree.now c.in-Some.old.value.element c.requires.order there)
