use Rattle.std.proofs.Common.{arith, ◌≡◌, ◌≤◌, ◌+◌, Some, Ok, ◌∙◌, subst}
use Rattle.std.specs.Prelude.{IfSome}
use Rattle.std.proofs.lemmas.Result.{err_from_is_err_and}
use Rattle.std.specs.declared.alloc.Global.{Global}
use Rattle.tx_journal.specs.Journal.{StandsAt, Finds}
use Rattle.tx_journal.proofs.Replays.{stands_at, gate_next, found_none, found_payload, gate_within, replay_fails}
use Rattle.tx_journal.proofs.find.find.Goals as goal

pub returns-then-len-from-clause-found : goal.returns-then-len-from-clause-found
returns-then-len-from-clause-found g c d tells newest format payloads end at_rest gated =
    omega (arith, gate_within payloads end c.args.from.index c.args.from.gate d.bytes at_rest gated, c.if-len-from.true, c.in-Ok.ensures.length d tells)

pub returns-in_err-next-clause-found : goal.returns-in_err-next-clause-found
returns-in_err-next-clause-found g c d tells newest format payloads end at_rest gated =
    let p = err_from_is_err_and c.from_residual.result c.from_residual.ensures.1 in
    let here = c.loop-step.invariant.gated d tells newest format payloads end at_rest gated in
    rw (p.1, p.2) (replay_fails Global payloads c.loop-step.step c.args.index c.loop-step.gate _ d (stands_at payloads end c.loop-step.step c.loop-step.gate d.bytes at_rest here) (c.in_err-next.ensures.stands d (c.loop-step.invariant.same ∙ tells)))

pub returns-in-None-clause-found : goal.returns-in-None-clause-found
returns-in-None-clause-found g c d tells newest format payloads end at_rest gated =
    let here = c.loop-step.invariant.gated d tells newest format payloads end at_rest gated in
    omega (
      arith,
      c.loop-step-test.true,
      found_none payloads c.loop-step.step c.loop-step.gate d (stands_at payloads end c.loop-step.step c.loop-step.gate d.bytes at_rest here)
          (subst (λ o. StandsAt c.loop-step.gate (Ok o) d) c.in-None.is (c.in_ok-next.ensures.stands d (c.loop-step.invariant.same ∙ tells))),
    )

pub loop-step-preserved : goal.loop-step-preserved
loop-step-preserved g c = record {
  within = (subst (λ o. IfSome o (λ n. (c.loop-step.gate + 5 ≤ n) × (n ≤ c.in-Ok.len))) c.in-Some.is c.in_ok-next.ensures.next.1).1;
  same = c.next_gate.ensures.same ∙ c.loop-step.invariant.same;
  shown = c.next_gate.ensures.shown;
  cost = omega (arith, c.loop-step.invariant.cost, c.in_ok-next.ensures.cause);
  gated = λ d tells newest format payloads end at_rest gated. gate_next payloads end c.loop-step.step c.loop-step.gate c.in-Some.next d at_rest (c.loop-step.invariant.gated d tells newest format payloads end at_rest gated)
      (subst (λ o. StandsAt c.loop-step.gate (Ok o) d) c.in-Some.is (c.in_ok-next.ensures.stands d (c.loop-step.invariant.same ∙ tells)));
}

pub returns-in_err-next-2-clause-found : goal.returns-in_err-next-2-clause-found
returns-in_err-next-2-clause-found g c d tells newest format payloads end at_rest gated =
    let p = err_from_is_err_and c.from_residual-in_err-next-2.result c.from_residual-in_err-next-2.ensures.1 in
    let here = c.loop-step.invariant.gated d tells newest format payloads end at_rest gated in
    rw (p.1, p.2) (replay_fails Global payloads c.loop-step.step c.args.index c.loop-step.gate _ d (stands_at payloads end c.loop-step.step c.loop-step.gate d.bytes at_rest here) (c.in_err-next-2.ensures.stands d (c.loop-step.invariant.same ∙ tells)))

pub returns-in-Some-2-clause-found : goal.returns-in-Some-2-clause-found
returns-in-Some-2-clause-found g c d tells newest format payloads end at_rest gated =
    let at : c.loop-step.step ≡ c.args.index = omega (arith, c.loop-step-test.false, c.loop-step.auto.step-end) in
    let here = c.loop-step.invariant.gated d tells newest format payloads end at_rest gated in
    let stands = subst (λ o. StandsAt c.loop-step.gate (Ok o) d) c.in-Some-2.is (c.in_ok-next-2.ensures.stands d (c.loop-step.invariant.same ∙ tells)) in
    subst (λ i. Finds payloads i (Ok (Some (c.in_ok-payload-in-Some-2.payload, c.in-Some-2.next)))) at
    (found_payload payloads end c.loop-step.step c.loop-step.gate c.in-Some-2.next d c.in_ok-payload-in-Some-2.payload at_rest here stands
    (c.in_ok-payload-in-Some-2.ensures.payload d (c.next_gate-2.ensures.same ∙ c.loop-step.invariant.same ∙ tells)))

pub returns-clause-found : goal.returns-clause-found
returns-clause-found g c d tells newest format payloads end at_rest gated =
    let here = c.loop-step.invariant.gated d tells newest format payloads end at_rest gated in
    omega (
      arith,
      c.loop-step-test.false,
      c.loop-step.auto.step-end,
      found_none payloads c.loop-step.step c.loop-step.gate d (stands_at payloads end c.loop-step.step c.loop-step.gate d.bytes at_rest here)
          (subst (λ o. StandsAt c.loop-step.gate (Ok o) d) c.in-None-2.is (c.in_ok-next-2.ensures.stands d (c.loop-step.invariant.same ∙ tells))),
    )
