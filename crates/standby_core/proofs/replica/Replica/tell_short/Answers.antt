use Rattle.std.proofs.Common.{ap}
use Rattle.standby_core.proofs.Told.{asks_lost_as}
use Rattle.standby_core.proofs.replica.Replica.tell_short.Goals as goal

pub returns-then-is_err-clause-asks : goal.returns-then-is_err-clause-asks
returns-then-is_err-clause-asks g c = asks_lost_as _ _ _ _ _ c.lose.result c.lose.ensures.failed (ap g.L.Source.read_traffic c.lose.ensures.link) c.lose.ensures.counted
