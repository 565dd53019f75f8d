use Rattle.std.specs.Prelude.{◌≡◌}
use Rattle.group_gate.proofs.gate.GroupGate.sit.Given as goal

abbrev pub invariant-loop-at : goal.invariant-loop-at
invariant-loop-at g l = (l.seat.table_id ≡ l.initial.seat.table_id) × (l.seat.me ≡ l.initial.seat.me)
