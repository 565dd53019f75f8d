use Rattle.placement_core.proofs.Recorded.{leaves_durable}
use Rattle.placement_core.proofs.Sound.{gives_few, gives_own}
use Rattle.placement_core.proofs.placement.Placement.step.Goals as goal

pub returns-clause-durable : goal.returns-clause-durable
returns-clause-durable c =
    leaves_durable c.args.self.now.state c.change-reply.new.self.state c.args.event c.args.now c.change-reply.result c.change-reply.new.self.recent c.rooms-before.ensures.order.ascend c.change-reply.ensures.gives c.change-reply.ensures.recent

pub returns-clause-spaces : goal.returns-clause-spaces
returns-clause-spaces c = λ a. gives_own c.args.event c.args.now c.change-reply.result c.args.self.now.state c.change-reply.new.self.state c.change-reply.ensures.gives a

pub returns-clause-types : goal.returns-clause-types
returns-clause-types c = λ t a. gives_few c.args.event c.args.now c.change-reply.result c.args.self.now.state c.change-reply.new.self.state c.change-reply.ensures.gives t a
