use Rattle.placement_core.proofs.Ordered.{run_ordered}
use Rattle.placement_core.proofs.Sound.{run_placement}
use Rattle.placement_core.proofs.law.rooms_sound_law.Goals as goal

pub returns : goal.returns
returns c = λ run. run_placement run (run_ordered run)
