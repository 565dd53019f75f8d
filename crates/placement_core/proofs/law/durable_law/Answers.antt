use Rattle.placement_core.proofs.Durable.{recorded_same}
use Rattle.placement_core.proofs.law.durable_law.Goals as goal

pub returns : goal.returns
returns c = λ s event now k. recorded_same s event now k.ascend
