use Rattle.clock_turns.proofs.ClosingLaws.{through_law, closed_law}
use Rattle.clock_turns.proofs.closings_law.closing_law.Goals as goal

pub returns-clause-through : goal.returns-clause-through
returns-clause-through c = through_law

pub returns-clause-closed : goal.returns-clause-closed
returns-clause-closed c = closed_law
