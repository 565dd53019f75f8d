use Rattle.standby_core.proofs.Told.{cut_fits}
use Rattle.standby_core.proofs.replica.Replica.tell_cut.Goals as goal

pub tell_short-requires-clause-fits : goal.tell_short-requires-clause-fits
tell_short-requires-clause-fits g c = cut_fits c.args.len c.ranges.len.fits
