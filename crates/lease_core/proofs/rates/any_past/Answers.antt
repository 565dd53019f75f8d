use Rattle.std.proofs.Common.{◌≡◌, ◌+◌, ℕ, Bool, true, false, get_or, drop, sym, ap, ◌∙◌}
use Rattle.std.specs.Prelude.{◌||◌}
use Rattle.std.proofs.lemmas.Bool.{or_left}
use Rattle.lease_core.specs.declared.book.MemberClock.{MemberClock}
use Rattle.lease_core.specs.Book.{is_past, any_past}
use Rattle.lease_core.proofs.Loops.{past_at, past_none}
use Rattle.lease_core.proofs.rates.any_past.Goals as goal

pub returns-then-is_past : goal.returns-then-is_past
returns-then-is_past c =
    let ss = c.args.steps.now in
    let ms = c.args.members.now in
    let at = c.loop-at.at in
    let d = c.index-members-at.result in
    let m : MemberClock = get_or ms at d in
    let rest : Bool = any_past (drop (at + 1) ss) (drop (at + 1) ms) in
    let past : is_past m.clock (get_or ss at 0) ≡ true = ap (λ (z : MemberClock). is_past z.clock (get_or ss at 0)) (sym c.index-members-at.is) ∙ sym c.is_past.ensures ∙ c.if-is_past.true in
    sym (c.loop-at.invariant ∙ past_at ss ms at d c.loop-at-test.true c.requires ∙ or_left (is_past m.clock (get_or ss at 0)) rest past)

pub loop-at-preserved : goal.loop-at-preserved
loop-at-preserved c =
    let ss = c.args.steps.now in
    let ms = c.args.members.now in
    let at = c.loop-at.at in
    let d = c.index-members-at.result in
    let m : MemberClock = get_or ms at d in
    let rest : Bool = any_past (drop (at + 1) ss) (drop (at + 1) ms) in
    let below : is_past m.clock (get_or ss at 0) ≡ false = ap (λ (z : MemberClock). is_past z.clock (get_or ss at 0)) (sym c.index-members-at.is) ∙ sym c.is_past.ensures ∙ c.if-is_past.false in
    c.loop-at.invariant ∙ past_at ss ms at d c.loop-at-test.true c.requires ∙ ap (λ (b : Bool). b || rest) below

pub returns : goal.returns
returns c = sym (c.loop-at.invariant ∙ past_none c.args.steps.now c.args.members.now c.loop-at.at c.loop-at-test.false)
