use Rattle.std.proofs.Common.{None}
use Rattle.wire_fields.specs.Records.{op}
use Rattle.exchanges.proofs.Fitting.{fits_more}
use Rattle.exchanges.proofs.rows.fits_each.Goals as goal

pub loop-one-preserved : goal.loop-one-preserved
loop-one-preserved c = fits_more op None c.args.ops.now c.loop-one.one-index _ c.loop-one-test.true c.one-item.is c.in_ok-fits_op.ensures c.loop-one.invariant
