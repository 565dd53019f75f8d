use Rattle.sidecar_start.proofs.Fitting.{host_fits}
use Rattle.sidecar_start.proofs.fits.fits_host.Goals as goal

pub returns : goal.returns
returns c =
    host_fits c.args.host.now c.requires.boot c.requires.types c.fits_place.ensures c.fits_app.ensures c.fits_address.ensures.ip c.fits_address.ensures.port
