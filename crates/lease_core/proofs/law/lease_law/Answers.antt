use Rattle.lease_core.specs.Leased.{opening_leased, leased_run}
use Rattle.lease_core.proofs.Laws.{run_stopped, run_honest, run_invariant, run_once, step_rests}
use Rattle.lease_core.proofs.Asked.{run_book}
use Rattle.lease_core.proofs.Givings.{late_shown}
use Rattle.lease_core.proofs.law.lease_law.Goals as goal

pub returns : goal.returns
returns c =
    record {
      reached = c.is_reached.ensures;
      late = late_shown c.args.world.now c.is_reached.ensures;
      stopped = λ owner part_of settings events keeps. run_stopped owner part_of keeps settings events;
      honest = λ owner part_of settings events event keeps. run_honest owner part_of keeps settings events event;
      refused = λ owner part_of settings events event error is. step_rests owner part_of (leased_run owner part_of (opening_leased settings) events) error event is;
      invariant = λ owner part_of settings events keeps. run_invariant owner part_of keeps settings events;
      once = λ owner part_of settings events keeps. run_once owner part_of keeps settings events;
      book = λ owner part_of settings events keeps. run_book owner part_of keeps settings events;
    }
