use Rattle.part_model.specs.Machine.{PartAllows}
use Rattle.step_gate.specs.Gates.{IsSeatOf}
use Rattle.outside_tests.proofs.parts.draw_often.Given as goal

abbrev pub invariant-loop : goal.invariant-loop
invariant-loop g l = IsSeatOf PartAllows l.gate l.seat
