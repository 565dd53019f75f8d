use Rattle.std.specs.Prelude.{◌≡◌}
use Rattle.group_gate.proofs.gate.GroupGate.keep_turn.Given as goal

abbrev pub invariant-loop : goal.invariant-loop
invariant-loop g l = (l.seat.table_id ≡ l.initial.seat.table_id) × (l.seat.me ≡ l.initial.seat.me)
