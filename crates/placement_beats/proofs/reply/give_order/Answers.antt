use Rattle.std.proofs.Common.{refl}
use Rattle.placement_beats.proofs.Turns.{gives_order, gives_nothing}
use Rattle.placement_beats.proofs.reply.give_order.Goals as goal

pub returns-in-None-clause-gives : goal.returns-in-None-clause-gives
returns-in-None-clause-gives g c = gives_nothing _ c.args.order c.args.done _ _ c.in-None.is refl

pub returns-in-Some-clause-gives : goal.returns-in-Some-clause-gives
returns-in-Some-clause-gives g c = gives_order _ c.args.order c.in-Some.event c.args.done _ _ _ c.in-Some.is c.give_event.ensures.gives
