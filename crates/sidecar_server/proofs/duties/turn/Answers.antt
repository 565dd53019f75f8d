use Rattle.sidecar_server.proofs.Follows.{other_duty}
use Rattle.sidecar_server.proofs.duties.turn.Goals as goal

pub returns-clause-does : goal.returns-clause-does
returns-clause-does g c = other_duty g.N.Dial.dialled g.N.Link.Source.read_traffic g.K.Clock.shown c.args.service.now.node.now c.args.service.now.placement _ _ c.clocked_turn.ensures.leaves
