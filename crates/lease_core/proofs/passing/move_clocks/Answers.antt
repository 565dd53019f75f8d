use Rattle.std.proofs.Common.{◌≡◌, ◌<◌, ◌+◌, ℕ, Bool, false, List, length, get_or, take, drop, set, sym, ap, ◌∙◌, length-set, arith}
use Rattle.std.proofs.lemmas.Bool.{or_parts, leb-false}
use Rattle.lease_core.specs.declared.book.MemberClock.{MemberClock}
use Rattle.lease_core.specs.Book.{is_past, any_past}
use Rattle.lease_core.proofs.Loops.{past_at, moved_next, moved_end, drop_set}
use Rattle.lease_core.proofs.passing.move_clocks.Goals as goal

pub loop-at-preserved : goal.loop-at-preserved
loop-at-preserved c =
    let ss = c.args.steps.now in
    let ms = c.loop-at.members in
    let at = c.loop-at.at in
    let d = c.index-members-at.result in
    let m : MemberClock = get_or ms at d in
    let n : MemberClock = record { member = m.member; clock = m.clock + get_or ss at 0; lease = m.lease } in
    let low : at < length ss = c.loop-at-test.true in
    let here = or_parts (is_past m.clock (get_or ss at 0)) (any_past (drop (at + 1) ss) (drop (at + 1) ms)) (sym (past_at ss ms at d low c.loop-at.invariant.lengths) ∙ c.loop-at.invariant.within) in
    record {
      whole = moved_next ss ms at d low c.loop-at.invariant.lengths ∙ c.loop-at.invariant.whole;
      within = ap (λ (zs : List MemberClock). any_past (drop (at + 1) ss) zs) (drop_set ms at n) ∙ here.1;
      lengths = c.loop-at.invariant.lengths ∙ sym (length-set ms at n);
    }

pub returns : goal.returns
returns c = sym (moved_end c.args.steps.now c.loop-at.members c.loop-at.at c.loop-at.invariant.lengths c.loop-at-test.false) ∙ c.loop-at.invariant.whole
