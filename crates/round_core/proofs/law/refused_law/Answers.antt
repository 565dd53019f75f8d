use Rattle.round_core.proofs.Settling.{refused_stays}
use Rattle.round_core.proofs.law.refused_law.Goals as goal

pub returns : goal.returns
returns c = λ s event now. refused_stays s event now
