use Rattle.std.proofs.Common.{arith}
use Rattle.frame_wire.proofs.LookLaws.{look_right, right_from}
use Rattle.frame_wire.proofs.look.look.Goals as goal

pub returns-clause-right : goal.returns-clause-right
returns-clause-right c = right_from c.args.at c.args.bytes.now c.look_front.result c.look_front.ensures (look_right c.args.at c.args.bytes.now (λ i. omega (arith, c.type_inv.bytes i)))
