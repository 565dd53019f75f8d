use Rattle.sidecar_server.proofs.Others.{leaves_none}
use Rattle.sidecar_server.proofs.Follows.{other_duty}
use Rattle.sidecar_server.proofs.beats.beat.Goals as goal

pub returns-in-None-clause-does : goal.returns-in-None-clause-does
returns-in-None-clause-does g c = other_duty g.N.Dial.dialled g.N.Link.Source.read_traffic g.K.Clock.shown c.args.service.now.node.now c.args.service.now.placement _ _ (leaves_none c.args.pass.seats)
