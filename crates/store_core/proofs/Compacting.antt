-- A compaction, from what its start, its rows and its end did.
use Rattle.std.proofs.Common.{◌≡◌, ◌⊎◌, inl, inr, cond, ℕ, ◌<◌, ◌≤◌, Bool, true, false, Option, Some, None, Result, Ok, Err, refl, sym, ap, ◌∙◌, subst, arith}
use Rattle.std.specs.Prelude.{OnOk}
use Rattle.disk_model.specs.Disk.{Tells}
use Rattle.disk_model.proofs.Stages.{told_before, tells_same}
use Rattle.store_tables.specs.Tables.{Tables, no_tables}
use Rattle.store_tables.specs.Rows.{table_rows, Restores, AreInOrder}
use Rattle.store_payloads.specs.Fits.{TablesFit}
use Rattle.store_payloads.specs.Payloads.{end_of_moments}
use Rattle.store_payloads.specs.Laws.{snapshot_payloads, ReadsSnapshot}
use Rattle.tx_journal.specs.declared.error.JournalError.{JournalError}
use Rattle.tx_journal.specs.declared.error.JournalError.TheVariants as errors
use Rattle.tx_journal.specs.Calls.{JournalState, told, is_alone, next_number, is_last, start_refusal, end_refusal, Starts, Turns, HasBegun, Replaces, Replaced, OtherKeeps, OtherRises}
use Rattle.tx_journal.specs.declared.format.Format.TheVariants.{Two}
use Rattle.tx_journal.specs.File.{image}
use Rattle.tx_journal.specs.Calls.{Keeps as KeepsFilesAs, Kept}
use Rattle.tx_journal.specs.Pair.{IsJust, number, generation_row, is_generation, SinceOpened}
use Rattle.store_core.specs.declared.events.CompactEnd.{CompactEnd}
use Rattle.store_core.specs.declared.events.CompactEnd.TheVariants.{Compacted, NotNeeded, Failed, OutOfMemory}
use Rattle.store_core.specs.Contents.{contents_of, compacted_payloads, OpensWith}
use Rattle.store_core.specs.Store.{StoreState, IsConsistent, Leaves}
use Rattle.store_core.specs.Compacts.{end_by, refused_or, rows_refusal, compact_refusal, Keeps, IsKept, IsCompacted, HasFaulted, EndsAs, Compacts, MayAdd, IsStopped, IsRefused, Misses}
use Rattle.store_core.proofs.Claims.{leaves_weaker, since_same}
use Rattle.tx_journal.proofs.Claims.{opened_now}
use Rattle.store_core.proofs.Stagings.{Beside, since_over, rises_then, keeps_on, kept_on, kept_then, kept_same}
use Rattle.store_core.proofs.Adding.{paired_on, err_same}

-- what the start of a compaction ensures
pub record StartEnsures {T : Type 0} (result : Result T JournalError) (old new : JournalState) : Type 0 where
  pub refused : (e : JournalError) → start_refusal old ≡ Some e → (result ≡ Err e) × (new ≡ old)
  pub taken : start_refusal old ≡ None → Starts result old new
  pub crash : Tells KeepsFilesAs (told old) (told new)
  pub kept : OnOk result (Tells Kept (told old) (told new))
  pub count : OnOk result (OtherKeeps old.other new.other)
  pub begun : OnOk result (Tells (HasBegun old.is_second_live (next_number old.generation)) (told old) (told new))

-- what its end ensures
pub record EndEnsures {T : Type 0} (result : Result T JournalError) (old new : JournalState) : Type 0 where
  pub refused : (e : JournalError) → end_refusal old ≡ Some e → (result ≡ Err e) × (new ≡ old)
  pub taken : end_refusal old ≡ None → Turns result old new
  pub crash : Tells (Replaces old.is_second_live) (told old) (told new)
  pub done : OnOk result (Tells (Replaced old.is_second_live) (told old) (told new))

-- the payloads of a compacted file lead to the contents
generation_is : (n : ℕ) → is_generation (generation_row n) ≡ true
generation_is n = refl

pub compacted_contents : (n now : ℕ) (t : Tables) → ReadsSnapshot → now < end_of_moments → TablesFit t → Restores (table_rows t) no_tables t → AreInOrder None (table_rows t) → contents_of (image Two (compacted_payloads n now t)) ≡ Some t
compacted_contents n now t reads below fits restores order = reads now t below fits restores order

-- whatever a crash leaves of a journal that holds payloads that lead to these contents
pub consistent_leaves : (t : Tables) (j : JournalState) → IsConsistent j t → j.is_broken ≡ false → Leaves t (record { contents = t; journal = j })
consistent_leaves t j consistent works files is =
    let held = consistent works files is in
    leaves_weaker (IsJust held.0) (OpensWith t) files (λ r e. (held.0, e, held.2)) held.1.leaves

-- the same after a step in which it opened with them at every moment
pub keeps_leaves : (t : Tables) (a b : JournalState) → Keeps t a b → Leaves t (record { contents = t; journal = b })
keeps_leaves t a b keeps files is =
    let before = told_before (SinceOpened (OpensWith t)) (told a) (told b) files keeps is in
    opened_now (OpensWith t) before.0.first before.0.second files.first files.second before.2

-- a store that met a fault
pub compact_broken : (least now : ℕ) (s : StoreState) (end : CompactEnd) → s.journal.is_broken ≡ true → end ≡ Failed errors.Reopen → Compacts least now s end s
compact_broken least now s end broken is = record {
  broken = λ same. (is, refl);
  short = λ works low. absurd (let e : true ≡ false = sym broken ∙ works in cc);
  works = λ works long. absurd (let e : true ≡ false = sym broken ∙ works in cc);
}

-- one whose live file is short enough
pub compact_short : (least now : ℕ) (t : Tables) (j : JournalState) → IsConsistent j t → j.is_broken ≡ false → j.end < least → Compacts least now (record { contents = t; journal = j }) (NotNeeded j.end) (record { contents = t; journal = j })
compact_short least now t j consistent works low = record {
  broken = λ broken. absurd (let e : true ≡ false = sym broken ∙ works in cc);
  short = λ w l. (refl, (refl, consistent_leaves t j consistent works));
  works = λ w long. absurd (omega (arith, low, long));
}

module _ (t : Tables) (now least : ℕ) (j : JournalState) (works : j.is_broken ≡ false) (consistent : IsConsistent j t) (long : least ≤ j.end) where
  abbrev here : StoreState
  here = record { contents = t; journal = j }

  abbrev there : JournalState → StoreState
  there k = record { contents = t; journal = k }

  -- a compaction that isn't made, and whose journal goes on
  pub kept : (k : JournalState) → k ≡ record j { other = k.other; staged = k.staged } → Tells Kept (told j) (told k) → IsConsistent k t → Keeps t j k → IsKept here (there k)
  kept k same held holds keeps = record {
    contents = refl;
    journal = same;
    holds = held;
    leaves = consistent_leaves t k holds (ap (λ (x : JournalState). x.is_broken) same ∙ works);
    risks = keeps;
  }

  pub faulted : (k : JournalState) → k ≡ record j { other = k.other; staged = k.staged; is_broken = true } → OtherRises j.other k.other → Keeps t j k → HasFaulted here (there k)
  faulted k same rises keeps = record { contents = refl; journal = same; rises = rises; leaves = keeps_leaves t j k keeps; risks = keeps }

  unbroken : (P : Type 0) → j.is_broken ≡ true → P
  unbroken P broken = absurd (let e : true ≡ false = sym broken ∙ works in cc)

  abbrev Ends : CompactEnd → JournalState → Type 0
  Ends end k = Compacts least now here end (there k)

  ends : (end : CompactEnd) (k : JournalState) → EndsAs (compact_refusal now here) now here end (there k) ⊎ ((end ≡ Failed errors.DiskFault) × HasFaulted here (there k)) ⊎ ((end ≡ OutOfMemory) × IsKept here (there k)) → Ends end k
  ends end k what = record {
    broken = λ broken. unbroken ((end ≡ Failed errors.Reopen) × (there k ≡ here)) broken;
    short = λ w low. absurd (omega (arith, long, low));
    works = λ w l. what;
  }

  ends_refused : (e : JournalError) (k : JournalState) → compact_refusal now here ≡ Some e → IsKept here (there k) → Ends (Failed e) k
  ends_refused e k refused is = ends (Failed e) k (inl (subst (λ r. EndsAs r now here (Failed e) (there k)) (sym refused) (refl, is)))

  pub ends_faulted : (k : JournalState) → HasFaulted here (there k) → Ends (Failed errors.DiskFault) k
  ends_faulted k is = ends (Failed errors.DiskFault) k (inr (inl (refl, is)))

  ends_out : (k : JournalState) → IsKept here (there k) → Ends OutOfMemory k
  ends_out k is = ends OutOfMemory k (inr (inr (refl, is)))

  pub ends_made : (rows : ℕ) (k : JournalState) → compact_refusal now here ≡ None → IsCompacted now rows here (there k) → Ends (Compacted rows) k
  ends_made rows k free is = ends (Compacted rows) k (inl (subst (λ r. EndsAs r now here (Compacted rows) (there k)) (sym free) (rows, refl, is)))

  -- nothing was done
  keeps_here : Keeps t j j
  keeps_here = keeps_on t j j consistent works (tells_same KeepsFilesAs (told j) (told j) (λ f payloads holds. since_same (IsJust payloads) f holds.leaves) refl)

  pub ends_memory : Ends OutOfMemory j
  ends_memory = ends_out j (kept j refl (kept_same j) consistent keeps_here)

  -- ---- the start

  start_kinds : (a b c : Bool) (n : ℕ) (e : JournalError) → cond a (Some errors.Reopen) (cond b (Some errors.OneDisk) (cond c (Some (errors.Spent n)) None)) ≡ Some e → end_by e ≡ Failed e
  start_kinds true b c n e is = let same : errors.Reopen ≡ e = cc in subst (λ x. end_by x ≡ Failed x) same refl
  start_kinds false true c n e is = let same : errors.OneDisk ≡ e = cc in subst (λ x. end_by x ≡ Failed x) same refl
  start_kinds false false true n e is = let same : errors.Spent n ≡ e = cc in subst (λ x. end_by x ≡ Failed x) same refl
  start_kinds false false false n e is = absurd (let f : None ≡ Some e = is in cc)

  start_paired : (a b c : Bool) (n : ℕ) → cond a (Some errors.Reopen) (cond b (Some errors.OneDisk) (cond c (Some (errors.Spent n)) None)) ≡ None → b ≡ false
  start_paired true b c n is = absurd (let f : Some errors.Reopen ≡ None = is in cc)
  start_paired false true c n is = absurd (let f : Some errors.OneDisk ≡ None = is in cc)
  start_paired false false c n is = refl

  refused_first : (e : JournalError) → start_refusal j ≡ Some e → compact_refusal now here ≡ Some e
  refused_first e is = ap (λ r. refused_or r (rows_refusal 31 (snapshot_payloads now t))) is

  start_fault : (T : Type 0) (e : JournalError) (k : JournalState) → Starts {T = T} (Err e) j k → Tells KeepsFilesAs (told j) (told k) → Ends (end_by e) k
  start_fault T errors.DiskFault k starts crash =
      ends_faulted k (faulted k (starts.0 ∙ ap (λ s. record j { other = k.other; staged = s; is_broken = true }) (sym (ap (λ (x : JournalState). x.staged) starts.0))) starts.1 (keeps_on t j k consistent works crash))
  start_fault T (errors.Damaged offset) k starts crash = absurd starts
  start_fault T (errors.TooLong n) k starts crash = absurd starts
  start_fault T (errors.Full len) k starts crash = absurd starts
  start_fault T errors.Reopen k starts crash = absurd starts
  start_fault T errors.NotStarted k starts crash = absurd starts
  start_fault T errors.OneDisk k starts crash = absurd starts
  start_fault T (errors.Spent count) k starts crash = absurd starts
  start_fault T errors.OutOfMemory k starts crash = absurd starts

  -- it isn't started
  pub start_refused : {T : Type 0} (e : JournalError) (k : JournalState) → StartEnsures {T = T} (Err e) j k → Ends (end_by e) k
  start_refused {T} e k ensures_ = go (start_refusal j) refl
    where
      go : (r : Option JournalError) → start_refusal j ≡ r → Ends (end_by e) k
      go None is = start_fault T e k (ensures_.taken is) ensures_.crash
      go (Some d) is =
          let both = ensures_.refused d is in
          let same : d ≡ e = err_same (Err e) d e refl both.0 in
          let refused : start_refusal j ≡ Some e = is ∙ ap (λ x. Some x) same in
          let end : end_by e ≡ Failed e = start_kinds j.is_broken (is_alone j.other) (is_last (number j.generation)) (number j.generation) e refused in
          subst (λ (x : CompactEnd). Ends x k) (sym end)
          (subst (λ (x : JournalState). Ends (Failed e) x) (sym both.1) (ends_refused e j (refused_first e refused) (kept j refl (kept_same j) consistent keeps_here)))

  -- it is
  pub record Started (a : JournalState) : Type 0 where
    pub free : start_refusal j ≡ None
    pub paired : is_alone j.other ≡ false
    pub journal : a ≡ record j { other = a.other; staged = Some 31 }
    pub may : MayAdd a
    pub held : Tells Kept (told j) (told a)
    pub holds : IsConsistent a t
    pub count : OtherKeeps j.other a.other
    pub keeps : Keeps t j a
    pub begun : Tells (HasBegun j.is_second_live (next_number j.generation)) (told j) (told a)

  pub started : {T : Type 0} (x : T) (a : JournalState) → StartEnsures (Ok x) j a → Started a
  started {T} x a ensures_ = go (start_refusal j) refl
    where
      go : (r : Option JournalError) → start_refusal j ≡ r → Started a
      go (Some d) is = absurd (let clash : Ok x ≡ Err d = (ensures_.refused d is).0 in cc)
      go None is =
          let two : is_alone j.other ≡ false = start_paired j.is_broken (is_alone j.other) (is_last (number j.generation)) (number j.generation) is in
          let journal : a ≡ record j { other = a.other; staged = Some 31 } = ensures_.taken is in
          record {
            free = is;
            paired = two;
            journal = journal;
            may = record {
              works = ap (λ (x : JournalState). x.is_broken) journal ∙ works;
              paired = paired_on j.other a.other two ensures_.count;
              at = 31;
              started = ap (λ (x : JournalState). x.staged) journal;
            };
            held = ensures_.kept;
            holds = kept_on t j a consistent works ensures_.kept;
            count = ensures_.count;
            keeps = keeps_on t j a consistent works ensures_.crash;
            begun = ensures_.begun;
          }

  module _ (a : JournalState) (first : Started a) where
    pub live_a : a.live ≡ j.live
    live_a = ap (λ (x : JournalState). x.live) first.journal

    pub side_a : a.is_second_live ≡ j.is_second_live
    side_a = ap (λ (x : JournalState). x.is_second_live) first.journal

    beside_a : Beside j a
    beside_a = record { live = live_a; side = side_a; paired = first.may.paired }

    pub keeps_then : (b : JournalState) → b.live ≡ a.live → b.is_second_live ≡ a.is_second_live → is_alone b.other ≡ false → Keeps t a b → Keeps t j b
    keeps_then b live side paired keeps = since_over (OpensWith t) j a b first.paired beside_a (record { live = live ∙ live_a; side = side ∙ side_a; paired = paired }) first.keeps keeps

    -- ---- its rows

    stopped_kept : (b : JournalState) → IsStopped t a b → IsKept here (there b)
    stopped_kept b is = kept b (is.journal ∙ ap (λ (x : JournalState). record x { other = b.other; staged = b.staged }) first.journal) (kept_then j a b first.held is.holds) is.consistent
        (keeps_then b (ap (λ (x : JournalState). x.live) is.journal) (ap (λ (x : JournalState). x.is_second_live) is.journal) is.paired is.keeps)

    refused_row : (e : JournalError) (b : JournalState) → IsRefused t (snapshot_payloads now t) e a b → Ends (Failed e) b
    refused_row e b is =
        let place : is.at ≡ 31 = let both : Some is.at ≡ Some 31 = sym is.from ∙ first.may.started ∙ ap (λ s. s) (sym first.may.started ∙ ap (λ (x : JournalState). x.staged) first.journal) in cc in
        ends_refused e b
        (ap (λ r. refused_or r (rows_refusal 31 (snapshot_payloads now t))) first.free ∙ ap (λ n. rows_refusal n (snapshot_payloads now t)) (sym place) ∙ is.refused)
        (stopped_kept b is.stopped)

    pub rows_missed : (e : JournalError) (b : JournalState) → Misses t (snapshot_payloads now t) e a b → Ends (end_by e) b
    rows_missed errors.DiskFault b is =
        ends_faulted b
        (faulted b (is.journal ∙ ap (λ (x : JournalState). record x { other = b.other; staged = b.staged; is_broken = true }) first.journal)
        (rises_then j.other a.other b.other first.paired first.count is.rises)
        (keeps_then b (ap (λ (x : JournalState). x.live) is.journal) (ap (λ (x : JournalState). x.is_second_live) is.journal) is.paired is.keeps))
    rows_missed errors.OutOfMemory b is = ends_out b (stopped_kept b is)
    rows_missed (errors.TooLong n) b is = refused_row (errors.TooLong n) b is
    rows_missed (errors.Full len) b is = refused_row (errors.Full len) b is
    rows_missed (errors.Damaged offset) b is = absurd is
    rows_missed errors.Reopen b is = absurd is
    rows_missed errors.NotStarted b is = absurd is
    rows_missed errors.OneDisk b is = absurd is
    rows_missed (errors.Spent count) b is = absurd is
