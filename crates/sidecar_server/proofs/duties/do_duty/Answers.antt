use Rattle.sidecar_server.proofs.Others.{leaves_none}
use Rattle.sidecar_server.proofs.Follows.{other_duty}
use Rattle.sidecar_server.proofs.duties.do_duty.Goals as goal

pub returns-in-Rest-clause-does : goal.returns-in-Rest-clause-does
returns-in-Rest-clause-does g c = other_duty g.N.Dial.dialled g.N.Link.Source.read_traffic g.K.Clock.shown c.args.service.now.node.now c.args.service.now.placement _ _ (leaves_none c.args.pass.seats)

pub returns-in-Wake-clause-does : goal.returns-in-Wake-clause-does
returns-in-Wake-clause-does g c = other_duty g.N.Dial.dialled g.N.Link.Source.read_traffic g.K.Clock.shown c.args.service.now.node.now c.args.service.now.placement _ _ (leaves_none c.args.pass.seats)

pub returns-else-work-eq-BEATS-clause-does : goal.returns-else-work-eq-BEATS-clause-does
returns-else-work-eq-BEATS-clause-does g c = other_duty g.N.Dial.dialled g.N.Link.Source.read_traffic g.K.Clock.shown c.args.service.now.node.now c.args.service.now.placement _ _ (leaves_none c.args.pass.seats)
