use Rattle.std.proofs.Common.{◌≡◌, None, is_some, sym, ◌∙◌}
use Rattle.stamp_lanes.specs.Stamps.{node_at}
use Rattle.stamp_lanes.proofs.Draws.{none-is}
use Rattle.stamp_lanes.proofs.NodeFacts.{cut_at, sound-row}
use Rattle.stamp_lanes.proofs.lanes.StampLanes.restore_boot.Goals as goal

pub put-requires : goal.put-requires
put-requires c = cut_at c.in_ok-leaf.leaf.value.element c.self.inside.tree c.self.invariant.order

pub invariant_of-self : goal.invariant_of-self
invariant_of-self c =
    let tree = c.self.inside.tree in
    let known : c.is_known.result ≡ is_some (node_at c.args.space.now c.args.node.now tree) = rw (← c.self.view_is) at c.is_known.ensures in
    let none : node_at c.args.space.now c.args.node.now tree ≡ None = none-is (node_at c.args.space.now c.args.node.now tree) (sym known ∙ c.if-is_known.false) in
    rw (c.put.ensures, c.in_ok-leaf.ensures, c.max-self-inside.ensures, c.counted-self-inside.ensures)
    (sound-row tree c.self.inside.greatest c.self.inside.count c.self.invariant c.args.space.now c.args.node.now c.args.boot none c.requires)
