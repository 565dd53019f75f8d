use Rattle.std.proofs.Common.{◌++◌, Option, option_to_list, length, refl, arith, ap, subst, sym, ◌∙◌}
use Rattle.std.specs.Vec.{vec_capacity}
use Rattle.fence_rows.specs.declared.event.FencedEvent.{FencedEvent}
use Rattle.fence_rows.proofs.Lists.{no_length, steps_begin, next_is_taken, next_has_room, steps_go_on, steps_end}
use Rattle.fence_rows.proofs.fenced.Fenced.step_each.Goals as goal

pub loop-event-init : goal.loop-event-init
loop-event-init g c = (rw (c.reverse.ensures.items, c.requires.room.0) (steps_begin c.args.self.now c.args.asks.now.items), c.reverse.ensures.capacity, refl)

pub step-requires : goal.step-requires
step-requires g c =
    let next = c.pop.ensures.items ∙ ap (λ (o : Option FencedEvent). c.pop.new.self.items ++ option_to_list o) c.in-Some.is in
    next_is_taken c.args.self.now c.loop-event.self c.args.asks.now.items c.loop-event.asks.items c.pop.new.self.items c.loop-event.answers.items c.in-Some.event c.loop-event.invariant.0 next c.requires.asks

pub push_reserved-requires : goal.push_reserved-requires
push_reserved-requires g c =
    let next = c.pop.ensures.items ∙ ap (λ (o : Option FencedEvent). c.pop.new.self.items ++ option_to_list o) c.in-Some.is in
    let few = next_has_room c.args.self.now c.loop-event.self c.args.asks.now.items c.loop-event.asks.items c.pop.new.self.items c.loop-event.answers.items c.in-Some.event c.loop-event.invariant.0 next in
    omega (arith, few, c.requires.room.1, c.loop-event.invariant.2, c.loop-event.answers.ok.0)

pub loop-event-preserved : goal.loop-event-preserved
loop-event-preserved g c =
    let next = c.pop.ensures.items ∙ ap (λ (o : Option FencedEvent). c.pop.new.self.items ++ option_to_list o) c.in-Some.is in (
      rw c.push_reserved.ensures.items
          (steps_go_on c.args.self.now c.loop-event.self c.args.asks.now.items c.loop-event.asks.items c.pop.new.self.items c.loop-event.answers.items c.in-Some.event c.loop-event.invariant.0 next c.step.result c.step.new.self c.step.ensures),
      c.pop.ensures.capacity ∙ c.loop-event.invariant.1,
      c.push_reserved.ensures.capacity ∙ c.loop-event.invariant.2,
    )

pub returns-clause-steps : goal.returns-clause-steps
returns-clause-steps g c =
    steps_end c.args.self.now c.loop-event.self c.args.asks.now.items c.loop-event.asks.items c.loop-event.answers.items c.loop-event.invariant.0
    (no_length c.loop-event.asks.items (sym c.loop-event.asks.ok.0 ∙ c.in_default.ensures.cases.0))
