use Rattle.exchanges.proofs.Fitting.{moment_fits}
use Rattle.exchanges.proofs.rows.fits_moment.Goals as goal

pub returns : goal.returns
returns c = moment_fits c.args.one (rw c.nanos-nanos.ensures.value at c.nanos-nanos.ensures.range)
