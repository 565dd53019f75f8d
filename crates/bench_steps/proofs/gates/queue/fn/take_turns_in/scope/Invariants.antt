use Rattle.step_gate.specs.Gates.{IsSeatOf}
use Rattle.part_model.specs.Machine.{PartAllows}
use Rattle.bench_steps.proofs.gates.queue.fn.take_turns_in.scope.Given as goal

abbrev pub invariant-loop : goal.invariant-loop
invariant-loop g l = IsSeatOf PartAllows l.gate.now l.seat
