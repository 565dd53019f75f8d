use Rattle.step_gate.specs.Gates.{IsSeatOf}
use Rattle.bench_steps.specs.Counting.{CounterMoves}
use Rattle.bench_steps.proofs.gates.counting.count_steps.Given as goal

abbrev pub invariant-loop : goal.invariant-loop
invariant-loop g l = IsSeatOf CounterMoves l.gate l.seat
