use Rattle.sidecar_server.proofs.ByClock.{closing_leaves}
use Rattle.sidecar_server.proofs.clocked.close_idle.Goals as goal

pub returns-clause-leaves : goal.returns-clause-leaves
returns-clause-leaves g c = closing_leaves _ _ _ _ _ _ _ _ _ _ c.closing_turn.ensures.turn
