use Rattle.std.proofs.Common.{◌<◌, length, arith}
use Rattle.place_table.proofs.RingBuilds.{known_more}
use Rattle.place_table.proofs.build.add_rings.Goals as goal

pub loop-kind-preserved : goal.loop-kind-preserved
loop-kind-preserved c =
    let within : c.loop-kind.kind-index < length c.args.kinds.now = omega arith in (
      c.in_ok-add_ring.ensures.rings,
      known_more c.args.kinds.now c.loop-kind.kind-index c.kind-item.result c.add_ring.new.rings.items within c.kind-item.is c.in_ok-add_ring.ensures.known
          (λ k e. c.in_ok-add_ring.ensures.kept k (c.loop-kind.invariant.1 k e)),
      λ k e. c.in_ok-add_ring.ensures.kept k (c.loop-kind.invariant.2 k e),
    )
