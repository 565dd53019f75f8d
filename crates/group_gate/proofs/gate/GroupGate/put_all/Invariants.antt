use Rattle.std.specs.Prelude.{◌≡◌, length}
use Rattle.group_gate.specs.Kept.{released}
use Rattle.group_gate.specs.Turns.{Settles}
use Rattle.group_gate.proofs.gate.GroupGate.put_all.Given as goal

abbrev pub invariant-loop-place : goal.invariant-loop-place
invariant-loop-place g l = Settles l.self l.at l.seat l.core × (released l.seat.me.0 ≡ released l.initial.seat.me.0)

abbrev pub decreases-loop-place : goal.decreases-loop-place
decreases-loop-place g l = length l.core.places.items
