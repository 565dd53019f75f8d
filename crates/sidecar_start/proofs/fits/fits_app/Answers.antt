use Rattle.std.proofs.Common.{List, ℕ, subst}
use Rattle.actor_names.specs.Names.{HasForm, app_id_fault}
use Rattle.sidecar_start.proofs.Fitting.{app_fits}
use Rattle.sidecar_start.proofs.fits.fits_app.Goals as goal

pub returns : goal.returns
returns c = app_fits c.args.app.now (subst (λ (t : List ℕ). HasForm app_id_fault t) c.as_slice-app.ensures.value c.as_slice-app.ensures.form)
