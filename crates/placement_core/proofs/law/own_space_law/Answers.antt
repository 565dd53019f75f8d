use Rattle.placement_core.specs.Placement.{new_placement}
use Rattle.placement_core.proofs.Sound.{opening_own, run_own}
use Rattle.placement_core.proofs.law.own_space_law.Goals as goal

pub returns : goal.returns
returns c = λ run. run_own new_placement run opening_own
