use Rattle.group_gate.specs.Gates.{SitsAt}
use Rattle.outside_tests.proofs.groups.ask_often.Given as goal

abbrev pub invariant-loop : goal.invariant-loop
invariant-loop g l = SitsAt g.M.Grouped.moves l.gate l.place.at l.seat
