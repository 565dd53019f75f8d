use Rattle.clock_turns.proofs.TickLaws.{through_law, finished_law}
use Rattle.clock_turns.proofs.ticks_law.tick_law.Goals as goal

pub returns-clause-through : goal.returns-clause-through
returns-clause-through c = through_law

pub returns-clause-finished : goal.returns-clause-finished
returns-clause-finished c = finished_law
