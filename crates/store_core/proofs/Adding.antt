-- How a row is answered by a journal that has a compaction under way.
use Rattle.std.proofs.Common.{◌≡◌, ◌⊎◌, inl, inr, ℕ, ◌+◌, Bool, true, false, List, [], ◌∷◌, length, Option, Some, None, Result, Ok, Err, refl, sym, ap, ◌∙◌, subst}
use Rattle.std.specs.Prelude.{OnOk, nat_lt, if◌then◌else◌}
use Rattle.disk_model.specs.Disk.{Tells}
use Rattle.tx_journal.specs.declared.error.JournalError.{JournalError}
use Rattle.tx_journal.specs.declared.error.JournalError.TheVariants.{DiskFault, Damaged, TooLong, Full, Reopen, NotStarted, OneDisk, Spent, OutOfMemory}
use Rattle.tx_journal.specs.File.{longest, most_bytes}
use Rattle.tx_journal.specs.Calls.{Side, JournalState, told, is_alone, row_refusal, add_refusal, given_up, next_row, Adds, HasRow, OtherKeeps, OtherRises}
use Rattle.tx_journal.specs.Calls.{Keeps as KeepsFilesAs, Kept}
use Rattle.store_tables.specs.Tables.{Tables}
use Rattle.store_core.specs.Store.{IsConsistent}
use Rattle.store_core.specs.Compacts.{rows_end, MayAdd, IsStaged, IsStopped, IsRefused, IsHit, Misses, AddsRow}
use Rattle.store_core.proofs.Stagings.{keeps_on, kept_on, kept_same, one_refusal, staged_none, stopped}

-- what the addition of a row ensures
pub record AddEnsures {T : Type 0} (row : List ℕ) (result : Result T JournalError) (old new : JournalState) : Type 0 where
  pub refused : (e : JournalError) → add_refusal old row ≡ Some e → (result ≡ Err e) × (new ≡ given_up e old)
  pub taken : add_refusal old row ≡ None → Adds row result old new
  pub crash : Tells KeepsFilesAs (told old) (told new)
  pub kept : OnOk result (Tells Kept (told old) (told new))
  pub count : OnOk result (OtherKeeps old.other new.other)
  pub added : OnOk result (Tells (HasRow old.is_second_live row) (told old) (told new))

pub paired_on : (a b : Option Side) → is_alone a ≡ false → OtherKeeps a b → is_alone b ≡ false
paired_on None b paired keeps = absurd (let e : true ≡ false = paired in cc)
paired_on (Some x) None paired keeps = absurd keeps
paired_on (Some x) (Some y) paired keeps = refl

pub paired_hit : (a b : Option Side) → OtherRises a b → is_alone b ≡ false
paired_hit None b rises = absurd rises
paired_hit (Some x) None rises = absurd rises
paired_hit (Some x) (Some y) rises = refl

clash_ok : {T : Type 0} (x : T) (e : JournalError) → Ok x ≡ Err e → ⊥
clash_ok x e is = cc

pub err_same : {T : Type 0} (r : Result T JournalError) (d e : JournalError) → r ≡ Err e → r ≡ Err d → d ≡ e
err_same r d e one two = cc

-- the two causes of a refusal
kinds : (b c : Bool) (n at : ℕ) (e : JournalError) → (if b then Some (TooLong n) else if c then Some (Full at) else None) ≡ Some e → (e ≡ TooLong n) ⊎ (e ≡ Full at)
kinds true c n at e is = inl cc
kinds false true n at e is = inr cc
kinds false false n at e is = absurd (let f : None ≡ Some e = is in cc)

module _ (t : Tables) (row : List ℕ) (old new : JournalState) (may : MayAdd old) (consistent : IsConsistent old t) where
  refusal_is : add_refusal old row ≡ row_refusal row (Some may.at)
  refusal_is = ap (λ b. if b then Some Reopen else row_refusal row old.staged) may.works ∙ ap (row_refusal row) may.started

  pub added : {T : Type 0} (x : T) → AddEnsures row (Ok x) old new → IsStaged t (row ∷ []) old new
  added {T} x ensures_ = go (row_refusal row (Some may.at)) refl
    where
      go : (r : Option JournalError) → row_refusal row (Some may.at) ≡ r → IsStaged t (row ∷ []) old new
      go (Some e) is = absurd (clash_ok x e (ensures_.refused e (refusal_is ∙ is)).0)
      go None is = record {
        at = may.at;
        from = may.started;
        fits = one_refusal may.at row ∙ is;
        journal = ensures_.taken (refusal_is ∙ is) ∙ ap (λ s. record old { other = new.other; staged = next_row s row }) may.started;
        paired = paired_on old.other new.other may.paired ensures_.count;
        count = ensures_.count;
        has = ensures_.added;
        holds = ensures_.kept;
        consistent = kept_on t old new consistent may.works ensures_.kept;
        keeps = keeps_on t old new consistent may.works ensures_.crash;
      }

  stopped_as : new ≡ record old { staged = None } → Tells KeepsFilesAs (told old) (told new) → IsStopped t old new
  stopped_as same crash = record {
    journal = same ∙ ap (λ (j : JournalState). record old { other = j.other; staged = j.staged }) (sym same);
    paired = ap (λ (j : JournalState). is_alone j.other) same ∙ may.paired;
    holds = subst (λ (j : JournalState). Tells Kept (told old) (told j)) (sym same) (kept_same old);
    consistent = subst (λ (j : JournalState). IsConsistent j t) (sym same) consistent;
    keeps = keeps_on t old new consistent may.works crash;
  }

  hit_as : (new ≡ record old { other = new.other; staged = None; is_broken = true }) × OtherRises old.other new.other → Tells KeepsFilesAs (told old) (told new) → IsHit t old new
  hit_as hit crash = record {
    journal = hit.0 ∙ ap (λ s. record old { other = new.other; staged = s; is_broken = true }) (sym (ap (λ (j : JournalState). j.staged) hit.0));
    paired = paired_hit old.other new.other hit.1;
    rises = hit.1;
    keeps = keeps_on t old new consistent may.works crash;
  }

  taken_miss : (T : Type 0) (e : JournalError) → Adds {T = T} row (Err e) old new → Tells KeepsFilesAs (told old) (told new) → Misses t (row ∷ []) e old new
  taken_miss T DiskFault adds crash = hit_as adds crash
  taken_miss T (Damaged offset) adds crash = absurd adds
  taken_miss T (TooLong n) adds crash = absurd adds
  taken_miss T (Full len) adds crash = absurd adds
  taken_miss T Reopen adds crash = absurd adds
  taken_miss T NotStarted adds crash = absurd adds
  taken_miss T OneDisk adds crash = absurd adds
  taken_miss T (Spent count) adds crash = absurd adds
  taken_miss T OutOfMemory adds crash = absurd adds

  refused_as : (e : JournalError) → row_refusal row (Some may.at) ≡ Some e → new ≡ record old { staged = None } → Tells KeepsFilesAs (told old) (told new) → IsRefused t (row ∷ []) e old new
  refused_as e is same crash = record { at = may.at; from = may.started; refused = one_refusal may.at row ∙ is; stopped = stopped_as same crash }

  refused_miss : (e : JournalError) → row_refusal row (Some may.at) ≡ Some e → new ≡ given_up e old → Tells KeepsFilesAs (told old) (told new) → Misses t (row ∷ []) e old new
  refused_miss e is same crash = elim (kinds (nat_lt longest (length row)) (nat_lt most_bytes (may.at + 5 + length row)) (length row) may.at e is) [
    | inl long ↦ subst (λ d. Misses t (row ∷ []) d old new) (sym long) (refused_as (TooLong (length row)) (is ∙ ap (λ d. Some d) long) (same ∙ ap (λ d. given_up d old) long) crash)
    | inr full ↦ subst (λ d. Misses t (row ∷ []) d old new) (sym full) (refused_as (Full may.at) (is ∙ ap (λ d. Some d) full) (same ∙ ap (λ d. given_up d old) full) crash)
  ]

  pub missed : {T : Type 0} (e : JournalError) → AddEnsures {T = T} row (Err e) old new → Misses t (row ∷ []) e old new
  missed {T} e ensures_ = go (row_refusal row (Some may.at)) refl
    where
      go : (r : Option JournalError) → row_refusal row (Some may.at) ≡ r → Misses t (row ∷ []) e old new
      go None is = taken_miss T e (ensures_.taken (refusal_is ∙ is)) ensures_.crash
      go (Some d) is =
          let both = ensures_.refused d (refusal_is ∙ is) in
          let same : d ≡ e = err_same (Err e) d e refl both.0 in
          subst (λ x. Misses t (row ∷ []) x old new) same (refused_miss d is both.1 ensures_.crash)

-- whatever is answered
pub row_added : {T : Type 0} (t : Tables) (row : List ℕ) (old new : JournalState) → MayAdd old → IsConsistent old t → (r : Result T JournalError) → AddEnsures row r old new → AddsRow t row r old new
row_added t row old new may consistent (Ok x) ensures_ = added t row old new may consistent x ensures_
row_added {T} t row old new may consistent (Err e) ensures_ = missed t row old new may consistent {T = T} e ensures_

-- a compaction is still under way after rows
pub may_staged : (t : Tables) (rows : List (List ℕ)) (old new : JournalState) → MayAdd old → IsStaged t rows old new → MayAdd new
may_staged t rows old new may staged = record {
  works = ap (λ (j : JournalState). j.is_broken) staged.journal ∙ may.works;
  paired = staged.paired;
  at = rows_end staged.at rows;
  started = ap (λ (j : JournalState). j.staged) staged.journal;
}

module _ (row : List ℕ) (old new : JournalState) (may : MayAdd old) where
  refused_by : add_refusal old row ≡ row_refusal row (Some may.at)
  refused_by = ap (λ b. if b then Some Reopen else row_refusal row old.staged) may.works ∙ ap (row_refusal row) may.started

  goes_on : {T : Type 0} (x : T) → AddEnsures row (Ok x) old new → MayAdd new
  goes_on {T} x ensures_ = go (row_refusal row (Some may.at)) refl
    where
      go : (r : Option JournalError) → row_refusal row (Some may.at) ≡ r → MayAdd new
      go (Some e) is = absurd (clash_ok x e (ensures_.refused e (refused_by ∙ is)).0)
      go None is =
          let taken : new ≡ record old { other = new.other; staged = next_row old.staged row } = ensures_.taken (refused_by ∙ is) in
          record {
            works = ap (λ (j : JournalState). j.is_broken) taken ∙ may.works;
            paired = paired_on old.other new.other may.paired ensures_.count;
            at = may.at + 5 + length row;
            started = ap (λ (j : JournalState). j.staged) taken ∙ ap (λ s. next_row s row) may.started;
          }

  pub may_on : {T : Type 0} (r : Result T JournalError) → AddEnsures row r old new → OnOk r (MayAdd new)
  may_on (Ok x) ensures_ = goes_on x ensures_
  may_on (Err e) ensures_ = tt

-- no row was added
pub stopped_here : (t : Tables) (j : JournalState) → MayAdd j → IsConsistent j t → IsStopped t j j
stopped_here t j may consistent = stopped t [] j j j may.paired (staged_none t j may.at may.started may.paired may.works consistent)
