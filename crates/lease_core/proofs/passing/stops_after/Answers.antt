use Rattle.std.proofs.Common.{◌≡◌, ◌<◌, ◌≤◌, ◌+◌, ℕ, Bool, length, get_or, drop, sym, ap, ◌∙◌, arith}
use Rattle.std.proofs.lemmas.Bool.{or_parts, leb-false}
use Rattle.lease_core.specs.declared.book.MemberClock.{MemberClock}
use Rattle.lease_core.specs.Lease.{has_ended}
use Rattle.lease_core.specs.Book.{moved, is_past, any_past, stops_for}
use Rattle.lease_core.proofs.Loops.{past_at, stops_if, stops_at, stops_none}
use Rattle.lease_core.proofs.passing.stops_after.Goals as goal
use Rattle.lease_core.proofs.passing.stops_after.Goals.{then-ended, else-ended}

pub loop-at-preserved : goal.loop-at-preserved
loop-at-preserved c =
    let ss = c.args.steps.now in
    let ms = c.args.members.now in
    let at = c.loop-at.at in
    let d = c.index-members-at.result in
    let m : MemberClock = get_or ms at d in
    let step : ℕ = get_or ss at 0 in
    let rest : ℕ = length (stops_for c.args.parts (moved (drop (at + 1) ss) (drop (at + 1) ms))) in
    let low : at < length ss = c.loop-at-test.true in
    let here = or_parts (is_past m.clock step) (any_past (drop (at + 1) ss) (drop (at + 1) ms)) (sym (past_at ss ms at d low c.requires.lengths) ∙ c.loop-at.invariant.within) in
    let fit : m.clock + step < 253370764800000 = leb-false _ _ here.0 in
    let clock : d.clock ≡ m.clock = ap (λ (z : MemberClock). z.clock) c.index-members-at.is in
    let sum : c.saturating_add.result ≡ m.clock + step = (let a = c.saturating_add.ensures in omega arith) in
    let ended : c.ended.result ≡ has_ended m.lease (m.clock + step) = c.ended.ensures ∙ (λ i. has_ended (c.index-members-at.is i).lease (sum i)) in
    let all = stops_at c.args.parts ss ms at d low c.requires.lengths in
    let before = c.loop-at.invariant.counted in
    let small = c.loop-at.invariant.fits in
    elim c.if-ended.branch [
      | then-ended w ↦ (
          let more = all ∙ ap (λ (b : Bool). stops_if b c.args.parts + rest) (sym ended ∙ w.if-ended.true) in
          let a = w.saturating_add-stops.ensures in
          let b = w.stops-is in
          record { counted = omega arith; within = here.1; fits = omega arith })
      | else-ended w ↦ (
          let more = all ∙ ap (λ (b : Bool). stops_if b c.args.parts + rest) (sym ended ∙ w.if-ended.false) in
          let b = w.stops-is in
          record { counted = omega arith; within = here.1; fits = omega arith })
    ]

pub returns : goal.returns
returns c =
    let none = stops_none c.args.parts c.args.steps.now c.args.members.now c.loop-at.at c.requires.lengths c.loop-at-test.false in
    let counted = c.loop-at.invariant.counted in
    let fits = c.loop-at.invariant.fits in
    omega arith
