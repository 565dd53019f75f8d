use Rattle.sidecar_server.proofs.Others.{stops_leave, leaves_then}
use Rattle.sidecar_server.proofs.Follows.{other_duty}
use Rattle.sidecar_server.proofs.beats.leave.Goals as goal

pub returns-in-None-clause-does : goal.returns-in-None-clause-does
returns-in-None-clause-does g c = let stops = c.stop_turn-seats.ensures.stops in other_duty g.N.Dial.dialled g.N.Link.Source.read_traffic g.K.Clock.shown c.args.service.now.node.now c.args.service.now.placement _ _ (stops_leave _ stops.0 _ _ stops.1)

pub returns-in-Some-clause-does : goal.returns-in-Some-clause-does
returns-in-Some-clause-does g c = let stops = c.stop_turn-seats.ensures.stops in other_duty g.N.Dial.dialled g.N.Link.Source.read_traffic g.K.Clock.shown c.args.service.now.node.now c.args.service.now.placement _ _ (leaves_then _ _ _ (stops_leave _ stops.0 _ _ stops.1) c.leave_over.ensures.leaves)
