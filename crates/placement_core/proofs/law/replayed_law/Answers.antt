use Rattle.placement_core.proofs.Replays.{run_restored}
use Rattle.placement_core.proofs.law.replayed_law.Goals as goal

pub returns : goal.returns
returns c = λ run now. run_restored run now
