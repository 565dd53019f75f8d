use Rattle.step_gate.specs.Gates.{IsSeatOf}
use Rattle.outside_tests.proofs.gates.step_often.Given as goal

abbrev pub invariant-loop : goal.invariant-loop
invariant-loop g l = IsSeatOf g.M.Machine.moves l.gate l.seat
