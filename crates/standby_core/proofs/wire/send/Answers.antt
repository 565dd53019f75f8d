use Rattle.std.proofs.Common.{subst, sym}
use Rattle.actor_ports.specs.Traffic.{Sends}
use Rattle.http_edge.proofs.Carried.{writes_from}
use Rattle.standby_core.proofs.wire.send.Goals as goal

-- how a write changes a connection's traffic also holds for the traffic that its reads report
pub returns-clause-writes : goal.returns-clause-writes
returns-clause-writes g c =
    let law = g.met.L.Wire.one_traffic in
    writes_from _ _ c.args.bytes.now c.write.result
    (subst (λ m. Sends m (g.L.Source.read_traffic c.write.new.self) c.args.bytes.now c.write.result) (sym (law c.args.link.now))
    (subst (λ m. Sends (g.L.Sink.write_traffic c.args.link.now) m c.args.bytes.now c.write.result) (sym (law c.write.new.self)) c.write.ensures.sends))
