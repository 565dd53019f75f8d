use Rattle.std.proofs.Common.{refl}
use Rattle.standby_session.proofs.Answering.{replied_done}
use Rattle.standby_session.proofs.calls.tell_done.Goals as goal

pub returns-clause-replies : goal.returns-clause-replies
returns-clause-replies g c = replied_done _ _ _ c.send.result refl c.send.ensures.writes
