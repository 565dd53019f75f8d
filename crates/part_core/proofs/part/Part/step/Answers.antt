use Rattle.std.proofs.Common.{sym, ◌∙◌, subst}
use Rattle.part_model.specs.declared.event.Reply.TheVariants as replies
use Rattle.part_model.specs.Rooms.{PartView, GivesStep}
use Rattle.part_model.specs.Part.{ring_owner}
use Rattle.part_model.specs.Sound.{NoIdleWaiter, IsPartSound, AreVersionsWithin, OwnsWhenOpen}
use Rattle.part_core.specs.Quiet.{IsQuietUntil}
use Rattle.part_core.proofs.Closings.{early_gives}
use Rattle.part_core.proofs.StepLaws.{step_good, quiet_found}
use Rattle.part_core.proofs.part.Part.step.Goals as goal

pub invariant_of-self : goal.invariant_of-self
invariant_of-self c =
    subst (λ (v : PartView). IsPartSound ring_owner v.state × AreVersionsWithin v.state × OwnsWhenOpen ring_owner v.state × IsQuietUntil v.state c.self.inside.quiet) (sym c.forget.ensures) c.self.invariant

pub returns-then-gives_none-clause-gives : goal.returns-then-gives_none-clause-gives
returns-then-gives_none-clause-gives c =
    subst (λ (v : PartView). GivesStep c.args.event replies.NoneClosing v.state c.forget.new.self) c.self.view_is
    (early_gives c.args.event c.self.inside.quiet c.self.inside.shard.state c.forget.new.self c.self.invariant.3 (sym c.is_early.ensures ∙ c.if-is_early.true) (sym c.gives_none.ensures ∙ c.if-gives_none.true) c.forget.ensures)

pub returns-then-gives_none-clause-no_idle_waiter : goal.returns-then-gives_none-clause-no_idle_waiter
returns-then-gives_none-clause-no_idle_waiter c = subst (λ (v : PartView). NoIdleWaiter ring_owner v.state) (sym c.forget.ensures) c.self.invariant.0.no_idle_waiter

pub invariant_of-self-2 : goal.invariant_of-self-2
invariant_of-self-2 c =
    let old = c.self.inside.shard.state in
    let new = c.step-reply.new.self in
    let g = step_good c.step-reply.result old new c.self.invariant.0 c.args.event c.step-reply.ensures.gives in
    let quiet = quiet_found old c.args.event c.step-reply.result new.state c.self.inside.quiet c.self.invariant.3 g in
    (g.sound, g.within c.requires c.self.invariant.1, g.owns c.self.invariant.2, rw (c.quiet_after-self-inside.ensures, c.lowered-left.ensures) quiet)

pub returns-clause-no_idle_waiter : goal.returns-clause-no_idle_waiter
returns-clause-no_idle_waiter c = (step_good c.step-reply.result c.self.inside.shard.state c.step-reply.new.self c.self.invariant.0 c.args.event c.step-reply.ensures.gives).sound.no_idle_waiter

pub returns-clause-sound : goal.returns-clause-sound
returns-clause-sound c = (step_good c.step-reply.result c.self.inside.shard.state c.step-reply.new.self c.self.invariant.0 c.args.event c.step-reply.ensures.gives).sound

pub returns-clause-within : goal.returns-clause-within
returns-clause-within c = (step_good c.step-reply.result c.self.inside.shard.state c.step-reply.new.self c.self.invariant.0 c.args.event c.step-reply.ensures.gives).within c.requires c.self.invariant.1

pub returns-clause-tells : goal.returns-clause-tells
returns-clause-tells c = (step_good c.step-reply.result c.self.inside.shard.state c.step-reply.new.self c.self.invariant.0 c.args.event c.step-reply.ensures.gives).tells

pub returns-clause-owns : goal.returns-clause-owns
returns-clause-owns c = (step_good c.step-reply.result c.self.inside.shard.state c.step-reply.new.self c.self.invariant.0 c.args.event c.step-reply.ensures.gives).owns c.self.invariant.2
