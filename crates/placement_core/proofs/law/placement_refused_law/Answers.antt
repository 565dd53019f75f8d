use Rattle.placement_core.proofs.Refusals.{refused_rests}
use Rattle.placement_core.proofs.law.placement_refused_law.Goals as goal

pub returns : goal.returns
returns c = λ s event now a. refused_rests s event now a.ascend
