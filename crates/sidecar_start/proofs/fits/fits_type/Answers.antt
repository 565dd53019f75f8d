use Rattle.std.proofs.Common.{List, ℕ, subst}
use Rattle.actor_names.specs.Names.{HasForm, actor_type_fault}
use Rattle.sidecar_start.proofs.Fitting.{type_fits}
use Rattle.sidecar_start.proofs.fits.fits_type.Goals as goal

pub returns : goal.returns
returns c = type_fits c.args.kind.now (subst (λ (t : List ℕ). HasForm actor_type_fault t) c.as_slice-kind.ensures.value c.as_slice-kind.ensures.form)
