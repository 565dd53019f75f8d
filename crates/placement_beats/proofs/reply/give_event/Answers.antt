use Rattle.std.proofs.Common.{inl, refl}
use Rattle.placement_beats.proofs.Turns.{gives_event}
use Rattle.placement_beats.proofs.reply.give_event.Goals as goal

pub returns-in-Err-clause-gives : goal.returns-in-Err-clause-gives
returns-in-Err-clause-gives g c = inl (c.in-Err.ensures.kept, refl)

pub returns-in-Ok-clause-gives : goal.returns-in-Ok-clause-gives
returns-in-Ok-clause-gives g c =
    gives_event c.in-Ok.answers.whole _ c.args.event.now c.in-Ok.answers.saids.items c.args.done _ _ _ c.in-Ok.ensures.gives c.in-Ok.ensures.each c.in-Ok.ensures.memory c.given_end.ensures.all c.given_end.ensures.some
