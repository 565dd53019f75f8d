use Rattle.round_core.specs.Room.{new_room}
use Rattle.round_core.proofs.Settling.{new_settled, run_settled}
use Rattle.round_core.proofs.law.settled_law.Goals as goal

pub returns : goal.returns
returns c = λ run. run_settled new_room run new_settled
