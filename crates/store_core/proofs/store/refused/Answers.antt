use Rattle.frame_wire.specs.StoreParts.{store_refusal}
use Rattle.store_core.proofs.store.refused.Goals as goal

pub returns-clause-fits : goal.returns-clause-fits
unfolding store_refusal
returns-clause-fits c fits = fits
