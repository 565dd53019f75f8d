use Rattle.std.proofs.Common.{ap}
use Rattle.standby_core.proofs.Told.{asks_lost_as}
use Rattle.standby_core.proofs.replica.Replica.tell_behind.Goals as goal

pub returns-in-None-clause-asks : goal.returns-in-None-clause-asks
returns-in-None-clause-asks g c = asks_lost_as _ _ _ _ _ c.lose.result c.lose.ensures.failed (ap g.L.Source.read_traffic c.lose.ensures.link) c.lose.ensures.counted
