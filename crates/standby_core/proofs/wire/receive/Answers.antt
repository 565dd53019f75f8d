use Rattle.http_edge.proofs.Carried.{reads_from}
use Rattle.standby_core.proofs.wire.receive.Goals as goal

pub returns-clause-reads : goal.returns-clause-reads
returns-clause-reads g c =
    reads_from (g.L.Source.read_traffic c.args.link.now) _ (g.L.Source.remaining c.args.link.now) (g.L.Source.remaining c.read.new.self) _ _ c.read.result
    (g.met.L.Wire.left_told c.args.link.now) c.read.ensures.appends c.read.ensures.front c.read.ensures.receives
