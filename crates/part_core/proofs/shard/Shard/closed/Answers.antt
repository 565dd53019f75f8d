use Rattle.std.proofs.Common.{◌&&◌, sym, ◌∙◌}
use Rattle.part_core.proofs.Drained.{counts_one, kept_less, kept_given, given_up}
use Rattle.part_core.proofs.shard.Shard.closed.Goals as goal

pub overflow_sub-self : goal.overflow_sub-self
overflow_sub-self c =
    let s = c.self in
    counts_one s.inside.standing s.inside.actors c.closed-reply.new.self s.invariant (rw (← s.view_is) at c.requires.sound) c.args.key.now c.closed-reply.result c.closed-reply.ensures
    (sym c.is_closed.ensures ∙ c.if-is_closed.true) (given_up s.inside.standing _ (sym c.gives_up.ensures ∙ c.if-gives_up.true))

pub invariant_of-self : goal.invariant_of-self
invariant_of-self c =
    let s = c.self in
    kept_less s.inside.standing s.inside.actors c.closed-reply.new.self s.invariant (rw (← s.view_is) at c.requires.sound) c.args.key.now c.closed-reply.result c.closed-reply.ensures
    (sym c.is_closed.ensures ∙ c.if-is_closed.true) (given_up s.inside.standing _ (sym c.gives_up.ensures ∙ c.if-gives_up.true))

pub invariant_of-self-else-gives_up : goal.invariant_of-self-else-gives_up
invariant_of-self-else-gives_up c =
    let s = c.self in
    kept_given s.inside.standing s.inside.actors c.closed-reply.new.self s.invariant (rw (← s.view_is) at c.requires.sound) c.args.key.now c.closed-reply.result c.closed-reply.ensures
    (λ i. (sym c.is_closed.ensures ∙ c.if-is_closed.true) i && (sym c.gives_up.ensures ∙ c.if-gives_up.false) i)
