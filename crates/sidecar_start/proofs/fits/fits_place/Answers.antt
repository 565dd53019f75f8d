use Rattle.std.proofs.Common.{List, ℕ, subst}
use Rattle.actor_names.specs.Names.{HasForm, space_fault, node_fault}
use Rattle.sidecar_start.proofs.Fitting.{place_fits}
use Rattle.sidecar_start.proofs.fits.fits_place.Goals as goal

pub returns : goal.returns
returns c =
    place_fits c.args.space.now c.args.node.now
    (subst (λ (t : List ℕ). HasForm space_fault t) c.as_slice-space.ensures.value c.as_slice-space.ensures.form)
    (subst (λ (t : List ℕ). HasForm node_fault t) c.as_slice-node.ensures.value c.as_slice-node.ensures.form)
