use Rattle.std.proofs.Common.{◌≡◌, ℕ, Bool, get_or, drop, sym, ap, ◌∙◌, List}
use Rattle.lease_core.specs.Lease.{keeps_rate, first_unrated}
use Rattle.lease_core.proofs.Loops.{rate_test, unrated_next, unrated_here, drop_all}
use Rattle.lease_core.proofs.rates.first_unrated.Goals as goal

pub returns-then-not-keeps_rate : goal.returns-then-not-keeps_rate
returns-then-not-keeps_rate c =
    let ss = c.args.steps.now in
    let at = c.loop-at.at in
    let test = rate_test c.keeps_rate.result c.args.placement (get_or ss at 0) c.keeps_rate.ensures in
    sym (c.loop-at.invariant ∙ unrated_here c.args.placement at ss c.loop-at-test.true (sym test ∙ c.if-not-keeps_rate.true))

pub loop-at-preserved : goal.loop-at-preserved
loop-at-preserved c =
    let ss = c.args.steps.now in
    let at = c.loop-at.at in
    let test = rate_test c.keeps_rate.result c.args.placement (get_or ss at 0) c.keeps_rate.ensures in
    c.loop-at.invariant ∙ unrated_next c.args.placement at ss c.loop-at-test.true (sym test ∙ c.if-not-keeps_rate.false)

pub returns : goal.returns
returns c = sym (c.loop-at.invariant ∙ ap (λ (ss : List ℕ). first_unrated c.args.placement c.loop-at.at ss) (drop_all c.args.steps.now c.loop-at.at c.loop-at-test.false))
