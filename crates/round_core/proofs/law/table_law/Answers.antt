use Rattle.round_core.specs.Room.{new_room}
use Rattle.round_core.specs.Runs.{run_state}
use Rattle.round_core.proofs.Sound.{new_sound, run_sound}
use Rattle.round_core.proofs.Types.{new_types, run_types}
use Rattle.round_core.proofs.Tables.{few_types}
use Rattle.round_core.proofs.law.table_law.Goals as goal

pub returns : goal.returns
returns c = λ run space types same.
    let s = run_state new_room run in
    let sound = run_sound new_room run new_sound in
    let few = run_types new_room run types new_types in
    sound.table_is_made space (few_types s.table few.table) same
