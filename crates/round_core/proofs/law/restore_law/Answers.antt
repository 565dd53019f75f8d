use Rattle.round_core.proofs.Replays.{run_restored}
use Rattle.round_core.proofs.law.restore_law.Goals as goal

pub returns : goal.returns
returns c = λ run now. run_restored run now
