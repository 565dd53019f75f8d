use Rattle.placement_beats.proofs.Fits.{beat_fits}
use Rattle.placement_beats.proofs.heartbeat.greeting.Goals as goal

pub returns-in-Ok-Some-clause-fits : goal.returns-in-Ok-Some-clause-fits
returns-in-Ok-Some-clause-fits c = beat_fits c.args.host.now c.requires
