use Rattle.sidecar_server.proofs.Follows.{tells_leave}
use Rattle.sidecar_server.proofs.clocked.look.Goals as goal

pub returns-clause-leaves : goal.returns-clause-leaves
returns-clause-leaves g c = tells_leave _ _ _ _ _ _ c.tell_watch.ensures.tells
