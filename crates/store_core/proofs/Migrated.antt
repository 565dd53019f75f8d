-- An opening that compacts an old file, and one that doesn't.
use Rattle.std.proofs.Common.{◌≡◌, ◌⊎◌, inl, inr, ℕ, ◌≤◌, Bool, true, false, List, [], take, drop, Option, Some, None, Result, Ok, Err, refl, sym, ap, subst, ◌∙◌}
use Rattle.std.specs.Prelude.{◌==◌}
use Rattle.disk_model.specs.Disk.{DiskState, Tells}
use Rattle.disk_model.proofs.Stages.{Both, Then, tells_on, tells_then, tells_map, tells_map_at}
use Rattle.store_tables.specs.Tables.{Tables}
use Rattle.tx_journal.specs.declared.error.JournalError.{JournalError}
use Rattle.tx_journal.specs.declared.error.JournalError.TheVariants.{DiskFault, Damaged, TooLong, Full, Reopen, NotStarted, OneDisk, Spent, OutOfMemory}
use Rattle.tx_journal.specs.declared.format.Format.{Format}
use Rattle.tx_journal.specs.declared.format.Format.TheVariants.{One, Two}
use Rattle.tx_journal.specs.File.{Image, image, name}
use Rattle.tx_journal.specs.Journal.{Rises}
use Rattle.tx_journal.specs.Calls.{Side, JournalState, told, tell_both, tell_sides, first_of, second_of, first_side, second_side, is_alone, is_making, next_number, FindsIn, HoldsFormat, MakesFormat, OpensFiles, KeepsFiles, KeepsCount, OtherRises}
use Rattle.tx_journal.specs.Pair.{Files, Holds, first_generation, SinceOpened}
use Rattle.store_core.specs.Contents.{compacted_payloads, OpensWith}
use Rattle.store_core.specs.Store.{StoreState}
use Rattle.store_core.specs.Compacts.{Keeps, IsKept, IsCompacted, HasFaulted}
use Rattle.store_core.specs.Migrations.{HasNumber, IsNamed, IsRefusedFor, Rewrites}
use Rattle.store_core.specs.Opens.{OpensStore, RefusesMigration, IsOfFirstFormat, FindsOld, IsMigrated, KeepsStore, IsStoreOpenError, RefusesStore, IsFolded}
use Rattle.store_core.proofs.Claims.{at_told}
use Rattle.tx_journal.proofs.Claims.{opened_now}
use Rattle.store_core.proofs.Opened.{opens-store, opened_tells}
use Rattle.store_core.proofs.Openings.{rises_from, told_read, folded_told, number_read}

-- ---- what a compaction leaves

-- whatever it answers, a crash leaves the contents
pub rewrites_keeps : {T : Type 0} (r : Result T JournalError) (old new : StoreState) → Rewrites r old new → Keeps old.contents old.journal new.journal
rewrites_keeps (Ok x) old new is = is.1.risks
rewrites_keeps (Err DiskFault) old new is = is.risks
rewrites_keeps (Err (Damaged offset)) old new is = is.1.risks
rewrites_keeps (Err (TooLong n)) old new is = is.1.risks
rewrites_keeps (Err (Full len)) old new is = is.1.risks
rewrites_keeps (Err OutOfMemory) old new is = is.risks
rewrites_keeps (Err Reopen) old new is = absurd is
rewrites_keeps (Err NotStarted) old new is = absurd is
rewrites_keeps (Err OneDisk) old new is = absurd is
rewrites_keeps (Err (Spent count)) old new is = absurd is

-- ---- what an opening leaves that compacts

tells_and : {S : Type 0} (one two : S → S → Type 0) (a b : Option S) → Tells one a b → Tells two a b → Tells (Both one two) a b
tells_and one two None b first second = first
tells_and {S} one two (Some d) b first second =
    let both : Some second.0 ≡ Some first.0 = sym second.1 ∙ first.1 in
    let same : second.0 ≡ first.0 = cc in
    (first.0, first.1, (first.2, subst (two d) same second.2))

module _ (create : Bool) (before : Option Files) (t : Tables) (j k : JournalState) (opens : Tells (OpensFiles create) before (told j)) (folded : IsFolded t j) (keeps : Keeps t j k) where
  pub migrated_opens : Tells (OpensStore create t) before (told k)
  migrated_opens =
      tells_map (Then (OpensStore create t) (SinceOpened (OpensWith t))) (OpensStore create t) before (told k)
      (λ f h calls. (calls.1.0, opened_now (OpensWith t) calls.0.first calls.0.second h.first h.second calls.2, calls.1.2))
      (tells_then (OpensStore create t) (SinceOpened (OpensWith t)) before (told j) (told k) (opened_tells create before j opens t j refl folded) keeps)

  module _ (crash : Tells (KeepsFiles create) before (told j)) (old : (f mid : Files) → before ≡ Some f → OpensFiles create f mid → told j ≡ Some mid → FindsOld create f) where
    abbrev Reads : Files → Files → Type 0
    Reads = Both (Both (OpensFiles create) (KeepsFiles create)) (λ f g. told j ≡ Some g)

    pub migrated_keeps : Tells (KeepsStore create) before (told k)
    migrated_keeps =
        tells_map_at (Then Reads (SinceOpened (OpensWith t))) (KeepsStore create) before (told k)
        (λ f h is calls.
        let files = calls.1.0.0 in
        let tells = calls.1.1 in
        inr (old f calls.0 is files tells, t, ((opens-store create f calls.0 j t tells folded files).0, calls.0, calls.1.0.1, calls.2)))
        (tells_then Reads (SinceOpened (OpensWith t)) before (told j) (told k)
        (at_told (Both (OpensFiles create) (KeepsFiles create)) before (told j) (tells_and (OpensFiles create) (KeepsFiles create) before (told j) opens crash))
        keeps)

-- the files are as they were read
pub kept_keeps : (create : Bool) (before after : Option Files) → Tells (KeepsFiles create) before after → Tells (KeepsStore create) before after
kept_keeps create before after tells = tells_map (KeepsFiles create) (KeepsStore create) before after (λ f h keeps. inl keeps) tells

-- ---- the file that it wrote, and the one that it read

finds_same : (making : Bool) (files : Files) (a b : Image) → FindsIn making files a → FindsIn making files b → a.payloads ≡ b.payloads
finds_same true files a b one two = one ∙ sym two
finds_same false files a b one two = let both : Ok a ≡ Ok b = sym one ∙ two in let same : a ≡ b = cc in ap (λ (x : Image). x.payloads) same

-- the file that was live is the other one now
old_other : (old new : StoreState) (rows : ℕ) → IsCompacted 0 rows old new → IsNamed old.journal → old.journal.is_broken ≡ false → old.journal.format ≡ One → IsOfFirstFormat new.journal.other
old_other old new rows is named works one = subst IsOfFirstFormat (sym (ap (λ (x : JournalState). x.other) is.journal)) (λ d reports. named works d reports ∙ ap name one)

-- a journal of the first format wasn't made by its opening, and its live file was of that format
pub record IsOld (create : Bool) (before : Option Files) (j : JournalState) : Type 0 where
  pub works : j.is_broken ≡ false
  pub holds : HoldsFormat j
  pub made : MakesFormat Two create before j
  pub one : j.format ≡ One

-- so no file was made
not_made : (create : Bool) (before : Option Files) (j : JournalState) (f : Files) → IsOld create before j → before ≡ Some f → is_making create f.first f.second ≡ true → ⊥
not_made create before j f aged same making = let e : One ≡ Two = sym aged.one ∙ aged.made f same making in cc

pub finds_old : (create : Bool) (before : Option Files) (j : JournalState) → IsOld create before j → (f mid : Files) → before ≡ Some f → OpensFiles create f mid → told j ≡ Some mid → FindsOld create f
finds_old create before j aged f mid same opens tells = go (is_making create f.first f.second) refl opens.1
  where
    go : (b : Bool) → is_making create f.first f.second ≡ b → FindsIn b f opens.0 → FindsOld create f
    go true making finds = absurd (not_made create before j f aged same making)
    go false reads finds = (reads, opens.0, finds, aged.holds aged.works mid tells opens.0 opens.2 ∙ aged.one)

module _ (create : Bool) (before : Option Files) (old : StoreState) (opens : Tells (OpensFiles create) before (told old.journal)) (aged : IsOld create before old.journal) (named : IsNamed old.journal) where
  pub migrated_is : (new : StoreState) (rows : ℕ) → HasNumber old.journal → IsCompacted 0 rows old new → IsMigrated create before new
  migrated_is new rows has is = record {
    count = next_number old.journal.generation;
    generation = ap (λ (x : JournalState). x.generation) is.journal;
    above = λ files same found finds.
        let on = tells_on (OpensFiles create) before (told old.journal) files opens same in
        ap next_number (has on.0 on.1 on.2.0 on.2.2)
        ∙ ap (λ (ps : List (List ℕ)). next_number (first_generation ps)) (finds_same (is_making create files.first files.second) files on.2.0 found on.2.1 finds);
    holds = λ files tells. subst (λ (u : Tables). Holds (image Two (compacted_payloads (next_number old.journal.generation) 0 u)) files) (sym is.contents) (is.holds files tells);
    old = λ files same. let on = tells_on (OpensFiles create) before (told old.journal) files opens same in finds_old create before old.journal aged files on.0 same on.2 on.1;
    other = old_other old new rows is named aged.works aged.one;
  }

-- ---- why it is refused

module _ (create : Bool) (before : Option Files) (old new : StoreState) (opens : Tells (OpensFiles create) before (told old.journal)) (folded : IsFolded old.contents old.journal) (aged : IsOld create before old.journal) (files : Files) (same : before ≡ Some files) where
  refusal_on : (e : JournalError) (mid : Files) → told old.journal ≡ Some mid → OpensFiles create files mid → IsRefusedFor e old new → RefusesMigration create e files
  refusal_on e mid tells reads is = go (is_making create files.first files.second) refl reads.1
    where
      go : (b : Bool) → is_making create files.first files.second ≡ b → FindsIn b files reads.0 → RefusesMigration create e files
      go true making finds = absurd (not_made create before old.journal files aged same making)
      go false unmade finds = record {
        reads = unmade;
        found = reads.0;
        is = finds;
        old = aged.holds aged.works mid tells reads.0 reads.2 ∙ aged.one;
        contents = old.contents;
        leads = folded mid tells reads.0 reads.2;
        refused = is.0 mid tells reads.0 reads.2;
      }

  refusal_of : (e : JournalError) → IsRefusedFor e old new → RefusesMigration create e files
  refusal_of e is = let on = tells_on (OpensFiles create) before (told old.journal) files opens same in refusal_on e on.0 on.1 on.2 is

  pub migration_refuses : (T : Type 0) (e : JournalError) → Rewrites {T = T} (Err e) old new → RefusesStore create e files
  migration_refuses T DiskFault is = tt
  migration_refuses T OutOfMemory is = tt
  migration_refuses T (Damaged offset) is = inr (inr (refusal_of (Damaged offset) is))
  migration_refuses T (TooLong n) is = refusal_of (TooLong n) is
  migration_refuses T (Full len) is = inr (refusal_of (Full len) is)
  migration_refuses T Reopen is = absurd is
  migration_refuses T NotStarted is = absurd is
  migration_refuses T OneDisk is = absurd is
  migration_refuses T (Spent count) is = absurd is

pub migration_error : (T : Type 0) (e : JournalError) (old new : StoreState) → Rewrites {T = T} (Err e) old new → IsStoreOpenError e
migration_error T DiskFault old new is = tt
migration_error T OutOfMemory old new is = tt
migration_error T (Damaged offset) old new is = tt
migration_error T (TooLong n) old new is = tt
migration_error T (Full len) old new is = tt
migration_error T Reopen old new is = is
migration_error T NotStarted old new is = is
migration_error T OneDisk old new is = is
migration_error T (Spent count) old new is = is

-- ---- all of an opening that compacts

-- what is known of a journal whose payloads were read
pub record WasOpened (create : Bool) (before : Option Files) (t : Tables) (j : JournalState) : Type 0 where
  pub opens : Tells (OpensFiles create) before (told j)
  pub crash : Tells (KeepsFiles create) before (told j)
  pub folded : IsFolded t j
  pub has : HasNumber j
  pub made : MakesFormat Two create before j

pub was_opened : (create : Bool) (before : Option Files) (t : Tables) (j k : JournalState) → k ≡ record j { live = record { told = j.live.told; faults = k.live.faults }; is_broken = k.is_broken } → Tells (OpensFiles create) before (told j) → Tells (KeepsFiles create) before (told j) → IsFolded t j → HasNumber j → MakesFormat Two create before j
    → WasOpened create before t k
was_opened create before t j k same opens crash folded has made =
    let here : told k ≡ told j = told_read j k same in
    record {
      opens = subst (Tells (OpensFiles create) before) (sym here) opens;
      crash = subst (Tells (KeepsFiles create) before) (sym here) crash;
      folded = folded_told t k j (sym here) folded;
      has = number_read j k same has;
      made = λ f is making. ap (λ (x : JournalState). x.format) same ∙ made f is making;
    }

pub was_old : (create : Bool) (before : Option Files) (t : Tables) (j : JournalState) → WasOpened create before t j → j.is_broken ≡ false → HoldsFormat j → j.format ≡ One → IsOld create before j
was_old create before t j was works of_ one = record { works = works; holds = of_; made = was.made; one = one }

module _ (create : Bool) (before : Option Files) (old new : StoreState) (was : WasOpened create before old.contents old.journal) {T : Type 0} (r : Result T JournalError) (is : Rewrites r old new) where
  pub rewritten_opens : Tells (OpensStore create old.contents) before (told new.journal)
  rewritten_opens = migrated_opens create before old.contents old.journal new.journal was.opens was.folded (rewrites_keeps r old new is)

  pub rewritten_keeps : IsOld create before old.journal → Tells (KeepsStore create) before (told new.journal)
  rewritten_keeps aged =
      migrated_keeps create before old.contents old.journal new.journal was.opens was.folded (rewrites_keeps r old new is) was.crash (finds_old create before old.journal aged)

-- a fault in the other file is one of the first disk or of the second
pub risen_other : (s : Bool) (live here : Side) (other after : Option Side) (first second : ℕ) (a b : Side) → is_alone other ≡ false → first ≤ (first_of s live other).faults → KeepsCount second (second_of s live other) → OtherRises other after
    → a ≡ first_of s here after → Some b ≡ second_of s here after → Rises first a.faults ⊎ Rises second b.faults
risen_other s live here None after first second a b paired one two rises is also = absurd (let e : true ≡ false = paired in cc)
risen_other s live here (Some x) None first second a b paired one two rises is also = absurd rises
risen_other true live here (Some x) (Some y) first second a b paired one two rises is also =
    inl (subst (λ (z : Side). Rises first z.faults) (sym is) (rises_from first x.faults y.faults one rises))
risen_other false live here (Some x) (Some y) first second a b paired one two rises is also =
    let same : y ≡ b = cc in
    inr (subst (λ (z : Side). Rises second z.faults) same (rises_from second x.faults y.faults two rises))

-- the disk that isn't live failed in the compaction
pub fault_rises : (t : Tables) (j k : JournalState) (new : StoreState) (first second : ℕ) (a b : Side) → k ≡ record j { live = record { told = j.live.told; faults = k.live.faults }; is_broken = k.is_broken } → is_alone j.other ≡ false → first ≤ (first_side j).faults → KeepsCount second (second_side j) → HasFaulted (record { contents = t; journal = k }) new
    → a ≡ first_side new.journal → Some b ≡ second_side new.journal → Rises first a.faults ⊎ Rises second b.faults
fault_rises t j k new first second a b same paired one two is at_first at_second =
    let side : new.journal.is_second_live ≡ j.is_second_live = ap (λ (x : JournalState). x.is_second_live) is.journal ∙ ap (λ (x : JournalState). x.is_second_live) same in
    risen_other j.is_second_live j.live new.journal.live j.other new.journal.other first second a b paired one two
    (subst (λ (o : Option Side). OtherRises o new.journal.other) (ap (λ (x : JournalState). x.other) same) is.rises)
    (at_first ∙ ap (λ s. first_of s new.journal.live new.journal.other) side)
    (at_second ∙ ap (λ s. second_of s new.journal.live new.journal.other) side)

-- ---- the format of the live file

-- it is told as a number
pub format_two : (format : Format) (n : ℕ) → (format ≡ One → n ≡ 1) → (n == 2) ≡ true → format ≡ Two
format_two One n one is = absurd (let e : false ≡ true = sym (ap (λ m. m == 2) (one refl)) ∙ is in cc)
format_two Two n one is = refl

pub format_one : (format : Format) (n : ℕ) → (format ≡ Two → n ≡ 2) → (n == 2) ≡ false → format ≡ One
format_one One n two is = refl
format_one Two n two is = absurd (let e : true ≡ false = sym (ap (λ m. m == 2) (two refl)) ∙ is in cc)
