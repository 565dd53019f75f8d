-- What a batch comes to on a store that has met no fault.
use Rattle.std.proofs.Common.{◌≡◌, inl, inr, ℕ, false, List, [], ◌∷◌, refl, sym, ◌∙◌, ap, subst}
use Rattle.std.specs.List.{AllByRecursion}
use Rattle.step_gate.specs.History.{entry}
use Rattle.store_tables.specs.Tables.{Tables}
use Rattle.store_tables.specs.Contents.{Timed}
use Rattle.tx_journal.specs.Calls.{JournalState}
use Rattle.store_core.specs.Store.{StoreState, Leaves, Risks}
use Rattle.store_core.specs.Lists.{InTurn, AreWritten, HaveFailed, IsPut, failed_entries, Begins, MovesBatch}
use Rattle.fence_rows.specs.declared.event.FencedEvent.{FencedEvent}
use Rattle.fence_rows.specs.declared.event.FencedOutcome.{FencedOutcome}
use Rattle.fence_rows.specs.Runs.{FencedHistory, Runs}
use Rattle.fence_rows.specs.Together.{fence_rules}
use Rattle.fence_rows.specs.Groups.{quiet_journal, quiet, disk_failed, events_of, HasMetFault}
use Rattle.fence_rows.proofs.Resting.{rest_risks}
use Rattle.fence_rows.proofs.GroupQuiet.{hushed, told_quiet}
use Rattle.fence_rows.proofs.GroupTurns.{unbroken}
use Rattle.fence_rows.proofs.GroupEntries.{pairs_of, same_cons, MayBe, FitsFrame, failed_of}
use Rattle.fence_rows.proofs.GroupBatches.{turns_still, turns_run, turns_told, Fails, FailsAs, turns_fail}
use Rattle.fence_rows.proofs.GroupDone.{kept, GoesOn, Failed, PartDone, leaves_at}

abbrev Pairs : Type 0
Pairs = List (FencedEvent × FencedOutcome)

module _ (old : StoreState) (works : old.journal.is_broken ≡ false) (new : StoreState) where
  abbrev faults : ℕ
  faults = old.journal.live.faults

  -- ---- it is on the disk

  module _ (es : FencedHistory) (may : AllByRecursion MayBe es) (fits : AllByRecursion FitsFrame es) where
    -- with the answers that were foreseen
    goes_on : (m : ℕ) (batch : List Timed) (ahead : StoreState) → InTurn fence_rules old (pairs_of es) batch ahead → (batch ≡ [] → m ≡ faults) → hushed m ahead ≡ quiet new
        → new.journal.is_broken ≡ false → Leaves new.contents new → Risks ahead.contents old new → PartDone old es new
    goes_on m batch ahead turns same is on leaves risks = record {
      is = record {
        foreseen = es;
        reached = hushed m ahead;
        asked = refl;
        leads = turns_run es old faults m batch ahead works may turns same;
        risks = risks;
        works = λ on. (subst (Runs (quiet old) es) is (turns_told es old faults m batch ahead works may fits turns same), leaves);
        failed = λ broken. absurd (unbroken new.journal.is_broken on broken);
      };
      ends = GoesOn on leaves;
    }

    at_new : (ahead : StoreState) → AreWritten ahead old new → hushed new.journal.live.faults ahead ≡ quiet new
    at_new ahead written =
        sym (ap (λ (t : Tables). record { contents = t; journal = quiet_journal new.journal }) written.contents
        ∙ ap (λ (j : JournalState). record { contents = ahead.contents; journal = quiet_journal j }) written.journal)

    put_done : (batch : List Timed) (ahead : StoreState) → InTurn fence_rules old (pairs_of es) batch ahead → IsPut batch ahead old new → PartDone old es new
    put_done [] ahead turns put =
        let still : ahead ≡ old = turns_still es old [] ahead works may turns refl in
        goes_on faults [] ahead turns (λ none. refl) (ap (hushed faults) still ∙ sym (ap quiet put.0)) (ap (λ (s : StoreState). s.journal.is_broken) put.0 ∙ works)
        (subst (λ (s : StoreState). Leaves s.contents s) (sym put.0) (put.1 works)) (rest_risks ahead.contents old new put.0 (put.1 works))
    put_done (c ∷ cs) ahead turns written =
        goes_on new.journal.live.faults (c ∷ cs) ahead turns (λ none. absurd (let e : c ∷ cs ≡ [] = none in cc)) (at_new ahead written) written.works
        (leaves_at new.contents ahead.contents new written.contents written.leaves) written.risks

  -- ---- the disk failed

  -- the entries as they were foreseen
  pub record Rebuilt (foreseen : Pairs) (es : FencedHistory) : Type 0 where
    pub entries : FencedHistory
    pub pairs : pairs_of entries ≡ foreseen
    pub failed : failed_of entries ≡ es

  rebuild : (foreseen : Pairs) (es : FencedHistory) → pairs_of es ≡ failed_entries fence_rules foreseen → Rebuilt foreseen es
  rebuild [] [] is = record { entries = []; pairs = refl; failed = refl }
  rebuild [] (e ∷ es) is = absurd cc
  rebuild (p ∷ ps) [] is = absurd cc
  rebuild (p ∷ ps) (e ∷ es) is =
      let later : pairs_of es ≡ failed_entries fence_rules ps = cc in
      let here : (p.0, disk_failed) ≡ (e.event, e.reply) = cc in
      let rest : Rebuilt ps es = rebuild ps es later in
      record {
        entries = entry e.by p.0 p.1 ∷ rest.entries;
        pairs = ap (λ (l : Pairs). p ∷ l) rest.pairs;
        failed = same_cons (entry e.by p.0 disk_failed) e (failed_of rest.entries) es (ap (λ (q : FencedEvent × FencedOutcome). entry e.by q.0 q.1) here) rest.failed;
      }

  may_be_foreseen : (es : FencedHistory) → AllByRecursion MayBe (failed_of es) → AllByRecursion MayBe es
  may_be_foreseen [] may = tt
  may_be_foreseen (e ∷ es) may = (may.0, may_be_foreseen es may.1)

  same_events : (es : FencedHistory) → events_of es ≡ events_of (failed_of es)
  same_events [] = refl
  same_events (e ∷ es) = ap (λ (l : List FencedEvent). e.event ∷ l) (same_events es)

  all_failed : (es : FencedHistory) → AllByRecursion HasMetFault (failed_of es)
  all_failed [] = tt
  all_failed (e ∷ es) = (inl refl, all_failed es)

  fails : (ahead : StoreState) → HaveFailed ahead old new → Fails old faults (quiet (kept old new))
  fails ahead failed = record { contents = refl; journal = ap quiet_journal failed.journal; broken = failed.broken; rises = failed.rises; silent = told_quiet (kept old new) }

  failed_done : (es : FencedHistory) (batch : List Timed) (ahead : StoreState) → AllByRecursion MayBe es → AllByRecursion FitsFrame (failed_of es) → InTurn fence_rules old (pairs_of es) batch ahead → (batch ≡ [] → ⊥) → HaveFailed ahead old new
      → PartDone old (failed_of es) new
  failed_done es batch ahead may fits turns begins failed =
      let hit : FailsAs old faults es (quiet (kept old new)) = turns_fail es old faults (quiet (kept old new)) batch ahead works (fails ahead failed) may fits turns begins in
      record {
        is = record {
          foreseen = es;
          reached = hushed faults ahead;
          asked = same_events es;
          leads = turns_run es old faults faults batch ahead works may turns (λ none. refl);
          risks = failed.risks;
          works = λ on. absurd (unbroken new.journal.is_broken on failed.broken);
          failed = λ broken. all_failed es;
        };
        ends = Failed hit.0 failed.broken hit.1 hit.2;
      }

  begins_some : (foreseen : Pairs) (batch : List Timed) → Begins fence_rules foreseen batch → batch ≡ [] → ⊥
  begins_some [] batch begins none = begins
  begins_some (p ∷ ps) batch begins none = let e : [] ≡ fence_rules.given p.0 ∷ begins.0 = sym none ∙ begins.1 in cc

  pub batch_done : (es : FencedHistory) → AllByRecursion MayBe es → AllByRecursion FitsFrame es → MovesBatch fence_rules old (pairs_of es) new → PartDone old es new
  batch_done es may fits moves = elim moves.ends [
    | inl put ↦ put_done es may fits moves.batch moves.ahead (subst (λ (l : Pairs). InTurn fence_rules old l moves.batch moves.ahead) (sym put.0) moves.in_turn) put.1
    | inr failed ↦
        let r : Rebuilt moves.foreseen es = rebuild moves.foreseen es failed.0 in
        subst (λ (l : FencedHistory). PartDone old l new) r.failed
        (failed_done r.entries moves.batch moves.ahead (may_be_foreseen r.entries (subst (AllByRecursion MayBe) (sym r.failed) may)) (subst (AllByRecursion FitsFrame) (sym r.failed) fits)
        (subst (λ (l : Pairs). InTurn fence_rules old l moves.batch moves.ahead) (sym r.pairs) moves.in_turn) (begins_some moves.foreseen moves.batch failed.1) failed.2)
  ]
