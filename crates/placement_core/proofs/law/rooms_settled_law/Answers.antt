use Rattle.placement_core.specs.Placement.{new_placement}
use Rattle.placement_core.proofs.Settling.{opening_settled, run_settled}
use Rattle.placement_core.proofs.law.rooms_settled_law.Goals as goal

pub returns : goal.returns
returns c = λ run. run_settled new_placement run opening_settled
