-- A list whose batch met a disk fault.
use Rattle.std.proofs.Common.{◌≡◌, ◌⊎◌, inr, ℕ, zero, suc, ◌-◌, Bool, true, false, List, [], ◌∷◌, ◌++◌, length, take, Option, Some, None, Result, Ok, Err, refl, sym, ◌∙◌, ap, subst, arith}
use Rattle.std.specs.Prelude.{map, is_err}
use Rattle.frame_wire.specs.declared.store_answer.StoreAnswer.TheVariants.{Refused}
use Rattle.frame_wire.specs.declared.store_refusal.StoreRefusal.TheVariants as refusals
use Rattle.store_tables.specs.Tables.{Tables}
use Rattle.store_tables.specs.Contents.{Timed}
use Rattle.store_payloads.specs.Payloads.{command_payload}
use Rattle.store_payloads.specs.Laws.{ReadsCommands}
use Rattle.tx_journal.specs.declared.error.JournalError.{JournalError}
use Rattle.tx_journal.specs.declared.error.JournalError.TheVariants as errors
use Rattle.tx_journal.specs.Journal.{Rises}
use Rattle.tx_journal.specs.Batches.{batch_refusal, AppendsAll}
use Rattle.tx_journal.specs.Calls.{JournalState, is_alone}
use Rattle.tx_journal.specs.Runs.{AppendAllMoves}
use Rattle.store_core.specs.Store.{StoreState, IsCurrent}
use Rattle.store_core.specs.Lists.{Rules, failed_entries, HaveFailed, MovesBatch}
use Rattle.store_core.specs.Listings.{all_so, IsUnderWay, GoesOn}
use Rattle.store_core.proofs.Listed.{each_more, none_behind}
use Rattle.store_core.proofs.Chains.{Chain, chain_of}
use Rattle.store_core.proofs.GoingOn.{unbroken_by}
use Rattle.store_core.proofs.Putting.{batch_risks}

-- ---- the journal

-- the disk failed, and the count of its faults rose
pub record Faults (old new : JournalState) : Type 0 where
  pub journal : new ≡ record old { live = new.live; staged = None; is_broken = true }
  pub rises : Rises old.live.faults new.live.faults

first_faults : (first : List ℕ) (rest : List (List ℕ)) (r : Result (Unit {0}) JournalError) (old new : JournalState) → is_err r ≡ true → AppendsAll (first ∷ rest) r old new → Faults old new
first_faults first rest (Ok x) old new is appends = absurd (let e : false ≡ true = is in cc)
first_faults first rest (Err errors.DiskFault) old new is appends = record { journal = appends.0; rises = appends.1 }
first_faults first rest (Err (errors.Damaged offset)) old new is appends = absurd appends
first_faults first rest (Err (errors.TooLong n)) old new is appends = absurd appends
first_faults first rest (Err (errors.Full len)) old new is appends = absurd appends
first_faults first rest (Err errors.Reopen) old new is appends = absurd appends
first_faults first rest (Err errors.NotStarted) old new is appends = absurd appends
first_faults first rest (Err errors.OneDisk) old new is appends = absurd appends
first_faults first rest (Err (errors.Spent count)) old new is appends = absurd appends
first_faults first rest (Err errors.OutOfMemory) old new is appends = absurd appends

-- a batch that isn't refused and isn't done met a disk fault
pub batch_faults : (payloads : List (List ℕ)) (r : Result (Unit {0}) JournalError) (old new : JournalState) → is_err r ≡ true → AppendsAll payloads r old new → Faults old new
batch_faults [] (Ok x) old new is appends = absurd (let e : false ≡ true = is in cc)
batch_faults [] (Err e) old new is appends = absurd appends
batch_faults (first ∷ rest) r old new is appends = first_faults first rest r old new is appends

-- the journal met a fault
pub faults_break : (old new : JournalState) → Faults old new → new.is_broken ≡ true
faults_break old new faults = ap (λ (j : JournalState). j.is_broken) faults.journal

-- ---- answers

module _ {A B : Type 0} (rules : Rules A B) where
  abbrev fault : B
  fault = rules.told (Refused refusals.DiskFault)

  -- what was asked is the same
  asked_stay : (before foreseen : List (A × B)) → map (λ (e : A × B). e.0) (before ++ failed_entries rules foreseen) ≡ map (λ (e : A × B). e.0) (before ++ foreseen)
  asked_stay [] [] = refl
  asked_stay [] (entry ∷ entries) = ap (λ l. entry.0 ∷ l) (asked_stay [] entries)
  asked_stay (entry ∷ before) foreseen = ap (λ l. entry.0 ∷ l) (asked_stay before foreseen)

  failed_are : (entries : List (A × B)) → map (λ (e : A × B). e.1) (failed_entries rules entries) ≡ all_so fault (length (map (λ (e : A × B). e.1) entries))
  failed_are [] = refl
  failed_are (entry ∷ entries) = ap (λ l. fault ∷ l) (failed_are entries)

  -- each answer that waited for the batch is replaced
  failed_behind :
      (before foreseen : List (A × B)) → map (λ (e : A × B). e.1) (before ++ failed_entries rules foreseen)
      ≡ take (length before) (map (λ (e : A × B). e.1) (before ++ foreseen)) ++ all_so fault (length (map (λ (e : A × B). e.1) (before ++ foreseen)) - length before)
  failed_behind [] foreseen =
      let n = length (map (λ (e : A × B). e.1) foreseen) in
      let same : n ≡ n - 0 = omega arith in
      failed_are foreseen ∙ ap (all_so fault) same
  failed_behind (entry ∷ before) foreseen =
      let n = length (map (λ (e : A × B). e.1) (before ++ foreseen)) in
      let same : n - length before ≡ suc n - suc (length before) = omega arith in
      ap (λ l. entry.1 ∷ l) (failed_behind before foreseen ∙ ap (λ k. take (length before) (map (λ (e : A × B). e.1) (before ++ foreseen)) ++ all_so fault k) same)

  -- ---- the list

  module _ (reads : ReadsCommands) (old : StoreState) (answered : List (A × B)) (j k : JournalState) (t : Tables) (payloads : List (List ℕ)) (first : ℕ) (u : IsUnderWay rules old answered j t payloads (Some first)) where
    -- those of batches that came to an end, and those that the disk failed
    abbrev failed_next : List (A × B)
    failed_next = u.before ++ failed_entries rules u.foreseen

    failed_asked : map (λ (e : A × B). e.0) failed_next ≡ map (λ (e : A × B). e.0) answered
    failed_asked = asked_stay u.before u.foreseen ∙ ap (map (λ (e : A × B). e.0)) (sym u.answered_is)

    failed_answers : map (λ (e : A × B). e.1) failed_next ≡ take first (map (λ (e : A × B). e.1) answered) ++ all_so fault (length (map (λ (e : A × B). e.1) answered) - first)
    failed_answers =
        failed_behind u.before u.foreseen
        ∙ ap (λ l. take (length u.before) (map (λ (e : A × B). e.1) l) ++ all_so fault (length (map (λ (e : A × B). e.1) l) - length u.before)) (sym u.answered_is)
        ∙ ap (λ n. take n (map (λ (e : A × B). e.1) answered) ++ all_so fault (length (map (λ (e : A × B). e.1) answered) - n)) (sym u.waits.0)

    failed_under_way : (r : Result (Unit {0}) JournalError) → batch_refusal j payloads ≡ None → is_err r ≡ true → AppendAllMoves payloads r j k → IsUnderWay rules old failed_next k t [] None
    failed_under_way r free failed moves =
        let base = u.base in
        let ahead = u.ahead in
        let chain : Chain base u.taken ahead = chain_of rules base u.foreseen u.taken ahead u.in_turn in
        let works : base.journal.is_broken ≡ false = ap (λ (x : JournalState). x.is_broken) (sym u.journal_is) ∙ unbroken_by j payloads free in
        let here : AppendAllMoves (map command_payload u.taken) r base.journal k =
        subst (λ (x : JournalState). AppendAllMoves (map command_payload u.taken) r x k) u.journal_is (subst (λ ps. AppendAllMoves ps r j k) u.payloads_are moves) in
        let open_ : batch_refusal base.journal (map command_payload u.taken) ≡ None =
        subst (λ (x : JournalState). batch_refusal x (map command_payload u.taken) ≡ None) u.journal_is (subst (λ ps. batch_refusal j ps ≡ None) u.payloads_are free) in
        let faults : Faults base.journal k = batch_faults (map command_payload u.taken) r base.journal k failed (here.taken open_) in
        let broken : k.is_broken ≡ true = faults_break base.journal k faults in
        let next : StoreState = record { contents = t; journal = k } in
        let have : HaveFailed ahead base next = record {
          contents = u.tables_is;
          journal = faults.journal;
          broken = broken;
          rises = faults.rises;
          risks = batch_risks base.contents ahead.contents base.journal u.taken u.current works reads u.may chain.led k here.crash;
        } in
        let batch : MovesBatch rules base (failed_entries rules u.foreseen) next = record { foreseen = u.foreseen; batch = u.taken; ahead = ahead; in_turn = u.in_turn; ends = inr (refl, u.waits.1, have) } in
        record {
          batches = u.batches ++ failed_entries rules u.foreseen ∷ [];
          before = failed_next;
          base = next;
          moves = each_more rules old base next u.batches u.before (failed_entries rules u.foreseen) u.moves batch;
          foreseen = [];
          taken = [];
          ahead = next;
          in_turn = (refl, refl);
          answered_is = sym (none_behind failed_next);
          journal_is = refl;
          tables_is = refl;
          payloads_are = refl;
          waits = (refl, refl);
          may = tt;
          current = λ unbroken. absurd (let e : true ≡ false = sym broken ∙ unbroken in cc);
          fits = u.fits;
          paired = ap (λ (x : JournalState). is_alone x.other) faults.journal ∙ ap (λ (x : JournalState). is_alone x.other) (sym u.journal_is) ∙ u.paired;
        }

  -- a batch whose disk failed ends with answers that say so
  pub put_fails :
      ReadsCommands → (answers : List B) (j k : JournalState) (t : Tables) (payloads : List (List ℕ)) (first : ℕ) (r : Result (Unit {0}) JournalError)
      → batch_refusal j payloads ≡ None → is_err r ≡ true → AppendAllMoves payloads r j k
      → GoesOn rules answers j t payloads (Some first) (take first answers ++ all_so (rules.told (Refused refusals.DiskFault)) (length answers - first)) k [] None
  put_fails reads answers j k t payloads first r free failed moves old answered are u = (
    failed_next reads old answered j k t payloads first u,
    failed_asked reads old answered j k t payloads first u,
    failed_answers reads old answered j k t payloads first u ∙ ap (λ l. take first l ++ all_so fault (length l - first)) are,
    failed_under_way reads old answered j k t payloads first u r free failed moves,
  )
