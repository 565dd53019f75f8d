use Rattle.std.proofs.Common.{arith, ◌≤◌, ◌+◌, Ok, ◌∙◌, subst}
use Rattle.std.proofs.lemmas.Result.{err_from_is_err_and}
use Rattle.std.specs.Prelude.{IfSome}
use Rattle.tx_journal.specs.Journal.{StandsAt}
use Rattle.tx_journal.proofs.Walks.{walk_more, walk_end, walk_fails}
use Rattle.tx_journal.proofs.scan.scan.Goals as goal

pub returns-in_err-next-clause-scanned : goal.returns-in_err-next-clause-scanned
returns-in_err-next-clause-scanned g c d tells newest format known front =
    let p = err_from_is_err_and c.from_residual.result c.from_residual.ensures.1 in
    rw (p.1, p.2) (walk_fails c.loop-window.gate _ d (c.loop-window.invariant.walked d tells newest format known front) (c.in_err-next.ensures.stands d (c.loop-window.invariant.same ∙ tells)))

pub loop-window-preserved : goal.loop-window-preserved
loop-window-preserved g c =
    let next = subst (λ o. IfSome o (λ n. (c.loop-window.gate + 5 ≤ n) × (n ≤ c.args.len))) c.in-Some.is c.in_ok-next.ensures.next.1 in
    record {
      some = omega (arith, c.loop-window.invariant.some, next.0);
      within = next.1;
      same = c.next_gate.ensures.same ∙ c.loop-window.invariant.same;
      shown = c.next_gate.ensures.shown;
      cost = omega (arith, c.loop-window.invariant.cost, c.in_ok-next.ensures.cause);
      walked = λ d tells newest format known front. walk_more c.loop-window.gate c.in-Some.next d (c.loop-window.invariant.walked d tells newest format known front)
          (subst (λ o. StandsAt c.loop-window.gate (Ok o) d) c.in-Some.is (c.in_ok-next.ensures.stands d (c.loop-window.invariant.same ∙ tells)));
    }

pub returns-clause-scanned : goal.returns-clause-scanned
returns-clause-scanned g c d tells newest format known front =
    walk_end c.loop-window.gate d (c.loop-window.invariant.walked d tells newest format known front)
    (subst (λ o. StandsAt c.loop-window.gate (Ok o) d) c.in_default.is (c.in_ok-next.ensures.stands d (c.loop-window.invariant.same ∙ tells)))
    (omega (arith, c.requires.len d tells, c.requires.few))
