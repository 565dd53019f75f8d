use Rattle.std.proofs.Common.{inl, refl}
use Rattle.placement_beats.proofs.Turns.{obeys}
use Rattle.placement_beats.proofs.reply.obey.Goals as goal

pub returns-in-Err-clause-obeys : goal.returns-in-Err-clause-obeys
returns-in-Err-clause-obeys g c = inl (refl, refl)

pub returns-in-Ok-clause-obeys : goal.returns-in-Ok-clause-obeys
returns-in-Ok-clause-obeys g c =
    obeys c.host.result.now c.args.node.now _ c.args.reply.now c.args.now _ _ c.in-Ok.order c.reply_end.result c.give_order.result c.host.ensures c.in-Ok.ensures.orders c.reply_end.ensures c.give_order.ensures.gives
