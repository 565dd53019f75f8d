use Rattle.sidecar_server.proofs.ByClock.{tick_leaves}
use Rattle.sidecar_server.proofs.clocked.run_timers.Goals as goal

pub returns-clause-leaves : goal.returns-clause-leaves
returns-clause-leaves g c = tick_leaves _ _ _ _ _ _ _ _ _ _ _ c.tick_turn-end.ensures.turn
