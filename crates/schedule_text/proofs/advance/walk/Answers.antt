use Rattle.std.proofs.Common.{◌≡◌, ◌+◌, ◌-◌, suc, sym, ap, arith, refl, ◌∙◌, Some, None, ℕ}
use Rattle.schedule_text.specs.Firing.{following, add_period}
use Rattle.schedule_text.proofs.Walks.{step-none, step-found, step-on, step-ended}
use Rattle.schedule_text.proofs.advance.walk.Goals as goal

pub loop-most-init : goal.loop-most-init
loop-most-init c =
    let most : c.saturating_sub-most.result + 1 ≡ suc (c.nanos-until.result - c.args.moment) = omega arith in
    rw (most, c.nanos-until.ensures.value) refl

pub returns-in_err-next : goal.returns-in_err-next
returns-in_err-next c =
    let none : add_period c.loop-most.at c.args.period.now ≡ None = sym c.add_period.ensures ∙ c.in_err-next.was in
    c.from_residual.ensures ∙ sym (step-none c.args.period.now c.nanos-until.result c.loop-most.at c.loop-most.most c.loop-most-test.true none) ∙ c.loop-most.invariant ∙ ap (λ (until : ℕ). following c.args.period.now c.args.moment until) c.nanos-until.ensures.value

pub returns-then-nanos-until : goal.returns-then-nanos-until
returns-then-nanos-until c =
    let found : add_period c.loop-most.at c.args.period.now ≡ Some c.in_ok-next.next = sym c.add_period.ensures ∙ c.in_ok-next.was in
    sym (step-found c.args.period.now c.nanos-until.result c.loop-most.at c.loop-most.most c.in_ok-next.next c.loop-most-test.true found (omega arith)) ∙ c.loop-most.invariant ∙ ap (λ (until : ℕ). following c.args.period.now c.args.moment until) c.nanos-until.ensures.value

pub loop-most-preserved : goal.loop-most-preserved
loop-most-preserved c =
    let found : add_period c.loop-most.at c.args.period.now ≡ Some c.in_ok-next.next = sym c.add_period.ensures ∙ c.in_ok-next.was in
    sym (step-on c.args.period.now c.nanos-until.result c.loop-most.at c.loop-most.most c.in_ok-next.next c.loop-most-test.true found (omega arith)) ∙ c.loop-most.invariant

pub returns : goal.returns
returns c =
    sym (step-ended c.args.period.now c.nanos-until.result c.loop-most.at c.loop-most.most (omega arith)) ∙ c.loop-most.invariant ∙ ap (λ (until : ℕ). following c.args.period.now c.args.moment until) c.nanos-until.ensures.value
