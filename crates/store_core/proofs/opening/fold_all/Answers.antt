use Rattle.std.proofs.Common.{ℕ, ◌+◌, List, length, Option, Vec, Ok, refl, ap, sym, subst, ◌∙◌, false, arith}
use Rattle.std.specs.Prelude.{is_some, ◌||◌}
use Rattle.std.specs.declared.alloc.Global.{Global}
use Rattle.tx_journal.specs.Calls.{rows_in}
use Rattle.tx_journal.specs.Journal.{Replays}
use Rattle.store_core.specs.Opens.{first_place}
use Rattle.store_core.proofs.Openings.{port_fault, costs_port, read_on, first_read, all_folded, fault_folded, more_folded}
use Rattle.store_core.proofs.opening.fold_all.Goals as goal

pub loop-index-init : goal.loop-index-init
loop-index-init g c = record {
  works = c.requires.works;
  same = refl;
  fits = c.requires.fits;
  faults = omega arith;
  read = λ files tells held holds.
      first_read c.args.is_first (is_some c.args.journal.now.generation) _ _ _ (c.first_place-at.ensures ∙ ap first_place (c.is_some.ensures ∙ ap is_some c.generation.ensures.number)) c.requires.start;
}

pub returns-in-Ok-None-clause-read : goal.returns-in-Ok-None-clause-read
returns-in-Ok-None-clause-read g c =
    let so_far = c.loop-index.invariant in
    all_folded c.args.journal.now c.loop-index.journal so_far.same c.requires.pair c.args.is_first c.requires.form c.args.journal.now.generation
    (λ files tells held holds. sym c.generation.ensures.number ∙ c.generation.ensures.first c.requires.works c.requires.pair files tells held holds)
    Global c.loop-index.index c.loop-index.at c.loop-index.fold so_far.read
    (λ files tells held holds.
    subst (λ o. Replays (rows_in c.loop-index.journal.other held.payloads) c.loop-index.index (Ok o)) c.in-Ok-None.field-0-is (c.in-Ok-None.ensures.found so_far.works files tells held holds))

pub returns-in-Err-clause-fault : goal.returns-in-Err-clause-fault
returns-in-Err-clause-fault g c = port_fault c.read_fault.result c.args.journal.now c.read_fault.ensures.kind

pub returns-in-Err-clause-cause : goal.returns-in-Err-clause-cause
returns-in-Err-clause-cause g c =
    costs_port (Option (Vec ℕ Global)) (Unit {0}) c.args.journal.now.live.faults c.loop-index.journal.live.faults c.replay.new.self.live.faults c.in-Err.error c.read_fault.result c.loop-index.invariant.faults c.in-Err.ensures.cause c.read_fault.ensures.kind c.read_fault.ensures.fault.0 c.read_fault.ensures.fault.1

pub returns-then-not-taken-clause-fault : goal.returns-then-not-taken-clause-fault
returns-then-not-taken-clause-fault g c =
    let so_far = c.loop-index.invariant in
    fault_folded c.args.journal.now c.loop-index.journal so_far.same c.requires.pair c.args.is_first c.requires.form c.args.journal.now.generation
    (λ files tells held holds. sym c.generation.ensures.number ∙ c.generation.ensures.first c.requires.works c.requires.pair files tells held holds)
    Global c.loop-index.index c.loop-index.at c.loop-index.fold so_far.read
    c.in-Ok-Some.payload c.as_slice.result.now c.as_slice.ensures.value
    (λ files tells held holds.
    subst (λ o. Replays (rows_in c.loop-index.journal.other held.payloads) c.loop-index.index (Ok o)) c.in-Ok-Some.field-0-is (c.in-Ok-Some.ensures.found so_far.works files tells held holds))
    (rw c.if-not-taken.true at c.in-Ok.ensures.folded)

pub loop-index-preserved : goal.loop-index-preserved
loop-index-preserved g c =
    let so_far = c.loop-index.invariant in
    let works = c.in-Ok-Some.ensures.broken ∙ ap (λ b. b || false) so_far.works in
    record {
      works = works;
      same = read_on c.args.journal.now c.loop-index.journal c.replay.new.self so_far.same c.replay.ensures.same c.requires.works works;
      fits = c.in-Ok.ensures.fits c.if-not-taken.false so_far.fits;
      faults = omega (arith, so_far.faults, c.in-Ok-Some.ensures.cause);
      read =
          more_folded c.args.journal.now c.loop-index.journal so_far.same c.requires.pair c.args.is_first c.requires.form c.args.journal.now.generation
          (λ files tells held holds. sym c.generation.ensures.number ∙ c.generation.ensures.first c.requires.works c.requires.pair files tells held holds)
          Global c.loop-index.index c.loop-index.at c.loop-index.fold so_far.read
          c.in-Ok-Some.payload c.as_slice.result.now c.as_slice.ensures.value
          (λ files tells held holds.
          subst (λ o. Replays (rows_in c.loop-index.journal.other held.payloads) c.loop-index.index (Ok o)) c.in-Ok-Some.field-0-is (c.in-Ok-Some.ensures.found so_far.works files tells held holds))
          c.take.new.self c.in-Some.next
          (rw c.if-not-taken.false at c.in-Ok.ensures.folded)
          (c.in-Some.ensures ∙ ap (λ (l : List ℕ). c.loop-index.at + 5 + length l) (c.as_slice-in-loop-index.ensures.value ∙ sym c.as_slice.ensures.value));
    }
