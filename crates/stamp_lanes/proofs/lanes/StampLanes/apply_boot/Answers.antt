use Rattle.std.proofs.Common.{◌≡◌, ◌+◌, ◌<◌, ◌^◌, is_some, arith}
use Rattle.stamp_lanes.specs.Stamps.{node_at, greatest_boot}
use Rattle.stamp_lanes.proofs.Draws.{may-draw}
use Rattle.stamp_lanes.proofs.NodeFacts.{cut_at, sound-boot}
use Rattle.stamp_lanes.proofs.lanes.StampLanes.apply_boot.Goals as goal

pub put-requires : goal.put-requires
put-requires c = cut_at c.with_boot.result.value.element c.self.inside.tree c.self.invariant.order

pub invariant_of-self : goal.invariant_of-self
invariant_of-self c =
    let e = c.args.boot.node.value.element in
    let tree = c.self.inside.tree in
    let known : c.is_known-known.result ≡ is_some (node_at e.space e.node tree) = rw (c.deref.ensures, c.deref-2.ensures, ← c.self.view_is) at c.is_known-known.ensures in
    let less : greatest_boot tree < 2 ^ 62 = may-draw e.space e.node tree (rw (← c.self.view_is) at c.requires) in
    let counter = c.self.invariant.boots in
    rw (c.put.ensures, c.with_boot.ensures, c.counted-self-inside.ensures, known)
    (sound-boot tree c.self.inside.greatest c.self.inside.count c.self.invariant e.space e.node (c.self.inside.greatest + 1) (omega arith) (omega arith))
