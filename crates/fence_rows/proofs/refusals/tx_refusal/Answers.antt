use Rattle.std.proofs.Common.{length}
use Rattle.fence_rows.proofs.Fitting.{many_fits}
use Rattle.fence_rows.proofs.refusals.tx_refusal.Goals as goal

pub returns-then-n-gt-MOST_OPS-clause-fits : goal.returns-then-n-gt-MOST_OPS-clause-fits
returns-then-n-gt-MOST_OPS-clause-fits c = rw c.refused.ensures (many_fits (length c.args.ops.now) c.requires)
