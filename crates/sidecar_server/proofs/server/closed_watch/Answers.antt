use Rattle.std.proofs.Common.{subst}
use Rattle.step_gate.specs.Gates.{opening_of}
use Rattle.sidecar_server.specs.Causes.{IsSound}
use Rattle.sidecar_server.proofs.Follows.{parties_stay}
use Rattle.sidecar_server.proofs.server.closed_watch.Goals as goal

pub returns : goal.returns
returns g c =
    let close = c.close-watch.ensures in
    subst (λ p. IsSound g.N.Dial.dialled g.N.Link.Source.read_traffic g.K.Clock.shown p c.stop.result) (parties_stay (opening_of c.args.gate) close.0 c.close-watch.result close.2) c.stop.ensures.sound
