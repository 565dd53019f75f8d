use Rattle.turn_core.specs.Cell.{new_cell}
use Rattle.turn_core.proofs.CellKeeps.{new_cell_sound}
use Rattle.turn_core.proofs.CellRuns.{runs_isolated, run_opens, run_sound}
use Rattle.turn_core.proofs.law.turns_isolated_law.Goals as goal

pub returns : goal.returns
returns c =
    record {
      isolated = λ depth events within may. runs_isolated depth events may;
      told = λ depth events within may. run_opens (new_cell depth) events (new_cell_sound depth) may;
      sound = λ depth events within may. run_sound (new_cell depth) events (new_cell_sound depth) may;
    }
