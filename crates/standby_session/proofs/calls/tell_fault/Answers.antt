use Rattle.std.proofs.Common.{refl}
use Rattle.standby_session.proofs.Answering.{told_whole, told_part}
use Rattle.standby_session.proofs.calls.tell_fault.Goals as goal

pub returns-in-Ok-clause-tells : goal.returns-in-Ok-clause-tells
returns-in-Ok-clause-tells g c = told_whole _ _ _ _ refl c.in-Ok.ensures.writes

pub returns-in-Err-clause-tells : goal.returns-in-Err-clause-tells
returns-in-Err-clause-tells g c = told_part _ _ _ _ refl c.in-Err.ensures.writes
