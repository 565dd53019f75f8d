use Rattle.group_gate.proofs.Views.{seat_kept}
use Rattle.group_gate.proofs.gate.GroupGate.sit.Goals as goal

pub try_sit-requires-clause-seat : goal.try_sit-requires-clause-seat
try_sit-requires-clause-seat g c = seat_kept _ _ _ _ c.loop-at.invariant.0 c.loop-at.invariant.1 c.requires
