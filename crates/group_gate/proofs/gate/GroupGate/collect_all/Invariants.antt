use Rattle.std.specs.Prelude.{◌≡◌}
use Rattle.group_gate.specs.Kept.{released}
use Rattle.group_gate.specs.Turns.{Gathers}
use Rattle.group_gate.proofs.gate.GroupGate.collect_all.Given as goal

abbrev pub invariant-loop-group : goal.invariant-loop-group
invariant-loop-group g l = Gathers g.M.Grouped.takes l.self l.at l.seat l.core × (released l.seat.me.0 ≡ released l.initial.seat.me.0)
