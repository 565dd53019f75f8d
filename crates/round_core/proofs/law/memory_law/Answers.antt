use Rattle.round_core.specs.Room.{new_room}
use Rattle.round_core.specs.Runs.{run_state}
use Rattle.round_core.proofs.Reached.{new_reached, run_reached, event_forgets}
use Rattle.round_core.proofs.law.memory_law.Goals as goal

pub returns : goal.returns
returns c = λ run event. event_forgets (run_state new_room run) event (run_reached new_room run new_reached)
