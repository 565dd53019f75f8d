use Rattle.group_gate.specs.Gates.{WaitsAt, KeepsMine}
use Rattle.group_gate.proofs.gate.GroupGate.call_in.Given as goal

abbrev pub invariant-loop : goal.invariant-loop
invariant-loop g l = WaitsAt g.M.Grouped.moves l.self l.place.at l.said.value l.seat × KeepsMine l.fn.seat l.seat
