use Rattle.standby_core.proofs.Told.{hears_err}
use Rattle.standby_core.proofs.hear.hear.Goals as goal

pub returns-in-Err-clause-hears : goal.returns-in-Err-clause-hears
returns-in-Err-clause-hears g c = hears_err _ _ _ _ c.in-Err.error c.clear.ensures.items c.in-Err.ensures.over c.in-Err.ensures.cut
