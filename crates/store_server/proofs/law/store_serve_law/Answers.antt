use Rattle.store_server.proofs.Framed.{command_answered}
use Rattle.store_server.proofs.law.store_serve_law.Goals as goal

pub returns : goal.returns
returns c = command_answered
