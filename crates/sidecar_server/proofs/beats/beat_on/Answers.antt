use Rattle.std.proofs.Common.{IfSome, subst}
use Rattle.sidecar_server.specs.Watch.{WatchTakes}
use Rattle.sidecar_server.proofs.Others.{leaves_none}
use Rattle.sidecar_server.proofs.Follows.{tells_leave, turn_duty}
use Rattle.sidecar_server.proofs.beats.beat_on.Goals as goal

pub tell_watch-requires-clause-event : goal.tell_watch-requires-clause-event
tell_watch-requires-clause-event g c κs within =
    subst (λ o. IfSome o (WatchTakes g.N.Dial.dialled g.N.Link.Source.read_traffic g.K.Clock.shown)) c.in-Some.is c.beat_over-beaten.ensures.event

pub returns-in-None-clause-does : goal.returns-in-None-clause-does
returns-in-None-clause-does g c = turn_duty g.N.Dial.dialled g.N.Link.Source.read_traffic g.K.Clock.shown c.args.service.now.node.now c.args.service.now.placement c.args.link _ _ _ c.requires.leads c.beat_over-beaten.ensures.turn (leaves_none _)

pub returns-in-Some-clause-does : goal.returns-in-Some-clause-does
returns-in-Some-clause-does g c = turn_duty g.N.Dial.dialled g.N.Link.Source.read_traffic g.K.Clock.shown c.args.service.now.node.now c.args.service.now.placement c.args.link _ _ _ c.requires.leads c.beat_over-beaten.ensures.turn (tells_leave _ _ _ _ _ _ c.tell_watch.ensures.tells)
