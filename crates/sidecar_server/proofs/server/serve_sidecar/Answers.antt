use Rattle.std.proofs.Common.{IfOk, subst}
use Rattle.sidecar_node.specs.declared.node.Seats.{Seats}
use Rattle.sidecar_node.specs.Nodes.{StartFrom}
use Rattle.sidecar_server.specs.declared.watch.Parties.{Parties}
use Rattle.sidecar_server.specs.Causes.{IsSound}
use Rattle.sidecar_server.proofs.server.serve_sidecar.Goals as goal

-- the watch was made for this node's member and the placement's address
pub returns-clause-stop : goal.returns-clause-stop
returns-clause-stop g c = subst (λ (p : Parties). IsSound g.N.Dial.dialled g.N.Link.Source.read_traffic g.K.Clock.shown p c.closed_watch-stop.result) c.in-Ok-new_watch.ensures.parties c.closed_watch-stop.ensures

-- the seats that were split off at first stopped all parts
pub returns-clause-stopped : goal.returns-clause-stopped
returns-clause-stopped g c =
    let stops = c.stop_all-seats.ensures.stops in
    record {
      seats = c.stop_all-seats.ensures.seats;
      own = c.in-Ok.last;
      from = subst (λ r. IfOk r (λ (s : Seats). StartFrom c.args.seats s)) c.in-Ok.is c.split-seats.ensures.from;
      saids = stops.0;
      stops = stops.1;
    }
