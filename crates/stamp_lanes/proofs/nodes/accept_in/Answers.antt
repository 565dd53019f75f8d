use Rattle.std.proofs.Common.{◌≡◌, Some, None, sym, ◌∙◌}
use Rattle.stamp_lanes.specs.Stamps.{at_node, node_at, IsNode}
use Rattle.lists_and_limits.proofs.Each.{each_found}
use Rattle.stamp_lanes.proofs.NodeFacts.{cut_node, cut_at, order-without, accept-none, accept-there}
use Rattle.stamp_lanes.proofs.nodes.accept_in.Goals as goal

pub take-requires : goal.take-requires
take-requires c = cut_node c.args.member.now.space c.args.member.now.node c.args.tree.now c.requires.order

pub accepted-node-requires : goal.accepted-node-requires
accepted-node-requires c = each_found IsNode (at_node c.args.member.now.space c.args.member.now.node) c.args.tree.now c.in-Some.old.value.element (sym c.in-Some.ensures.taken) c.requires.each

pub put-requires : goal.put-requires
put-requires c = rw c.take.ensures.rest (cut_at c.accepted-node.result.0.value.element _ (order-without c.args.member.now.space c.args.member.now.node c.args.tree.now c.requires.order))

pub returns-in-None : goal.returns-in-None
returns-in-None c =
    let none : node_at c.args.member.now.space c.args.member.now.node c.args.tree.now ≡ None = sym c.in-None.ensures.taken in
    c.take.ensures.rest ∙ accept-none c.args.member.now c.args.part c.args.kept c.args.tree.now none

pub returns-in-Some : goal.returns-in-Some
returns-in-Some c =
    let there : node_at c.args.member.now.space c.args.member.now.node c.args.tree.now ≡ Some c.in-Some.old.value.element = sym c.in-Some.ensures.taken in
    c.put.ensures
    ∙ rw (c.accepted-node.ensures, c.take.ensures.rest)
    (accept-there c.args.member.now c.args.part c.args.kept c.args.tree.now c.in-Some.old.value.element c.requires.order there)
