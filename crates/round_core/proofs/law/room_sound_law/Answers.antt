use Rattle.round_core.specs.Room.{new_room}
use Rattle.round_core.proofs.Sound.{new_sound, run_sound}
use Rattle.round_core.proofs.law.room_sound_law.Goals as goal

pub returns : goal.returns
returns c = λ run. run_sound new_room run new_sound
