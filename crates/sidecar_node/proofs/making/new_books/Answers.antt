use Rattle.std.proofs.Common.{[], ◌∷◌, ap, length, length-append, arith}
use Rattle.sidecar_node.proofs.News.{along_pushed}
use Rattle.sidecar_node.proofs.making.new_books.Goals as goal

pub loop-number-preserved : goal.loop-number-preserved
loop-number-preserved c =
    let inv = c.loop-number.invariant in
    let many = inv.many in
    let longer = ap length c.in_ok-push.ensures.items in
    record {
      many = omega (arith, length-append c.loop-number.gates.items (c.in_ok-gate.gate ∷ []));
      new = along_pushed _ c.loop-number.number _ _ _ _ c.in_ok-gate.gate c.in_ok-gate.seat inv.many c.in_ok-push.ensures.items c.in_ok-push-2.ensures.items inv.new c.in_ok-gate.ensures;
    }
