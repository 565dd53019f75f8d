use Rattle.sidecar_server.proofs.ByClock.{left_leaves}
use Rattle.sidecar_server.proofs.beats.leave_over.Goals as goal

pub returns-clause-leaves : goal.returns-clause-leaves
returns-clause-leaves g c = left_leaves _ _ _ _ _ _ c.leave_turn-seats.ensures.turn
