use Rattle.std.proofs.Common.{None}
use Rattle.wire_fields.specs.Fields.{in_any_order}
use Rattle.wire_fields.specs.Records.{op}
use Rattle.wire_fields.proofs.Loops.{fits_at, wrote_more}
use Rattle.wire_fields.proofs.ops.put_op_list.Goals as goal

pub put_op-requires : goal.put_op-requires
put_op-requires c = rw c.one-item.is (fits_at (in_any_order op) op.Fits (λ b a h. h) None c.args.ops.now c.loop-one.one-index _ c.requires c.loop-one-test.true)

pub loop-one-preserved : goal.loop-one-preserved
loop-one-preserved c = wrote_more op.spell c.args.ops.now c.loop-one.one-index _ _ c.loop-one.out.items c.put_op.new.out.items c.loop-one-test.true c.one-item.is c.loop-one.invariant c.in_ok-put_op.ensures
