-- The compaction of an old file, from how it ended.
use Rattle.std.proofs.Common.{◌≡◌, ◌⊎◌, inl, inr, cond, ℕ, ◌+◌, ◌<◌, ◌≤◌, Bool, true, false, List, [], ◌∷◌, length, Option, Some, None, Result, Ok, Err, refl, sym, ap, ◌∙◌, subst, arith}
use Rattle.std.specs.Prelude.{nat_lt, if◌then◌else◌, is_ok, OnOk}
use Rattle.disk_model.specs.Disk.{Tells}
use Rattle.disk_model.proofs.Stages.{told_before}
use Rattle.store_tables.specs.Tables.{Tables, no_tables}
use Rattle.store_tables.specs.Rows.{table_rows, Restores, AreInOrder}
use Rattle.store_payloads.specs.Fits.{TablesFit}
use Rattle.store_payloads.specs.Payloads.{end_of_moments}
use Rattle.store_payloads.specs.Laws.{snapshot_payloads, ReadsSnapshot}
use Rattle.tx_journal.specs.declared.error.JournalError.{JournalError}
use Rattle.tx_journal.specs.declared.error.JournalError.TheVariants.{DiskFault, Damaged, TooLong, Full, Reopen, NotStarted, OneDisk, Spent, OutOfMemory}
use Rattle.tx_journal.specs.declared.format.Format.TheVariants.{Two}
use Rattle.tx_journal.specs.File.{longest, most_bytes, file_length, Image, image}
use Rattle.tx_journal.specs.Calls.{JournalState, told, is_alone, is_last, row_refusal, start_refusal, next_number, Kept}
use Rattle.tx_journal.specs.Pair.{Files, Holds, number, first_generation}
use Rattle.store_core.specs.declared.events.CompactEnd.{CompactEnd}
use Rattle.store_core.specs.declared.events.CompactEnd.TheVariants as ends
use Rattle.store_core.specs.Contents.{contents_of, compacted_payloads}
use Rattle.store_core.specs.Store.{StoreState, IsConsistent, IsCurrent}
use Rattle.store_core.specs.Compacts.{refused_or, rows_refusal, compact_refusal, IsKept, IsCompacted, HasFaulted, EndsAs, Compacts}
use Rattle.store_core.specs.Migrations.{or_damaged, migration_refusal, HasNumber, migration_end, IsRefusedFor, Rewrites}
use Rattle.store_core.proofs.Accepted.{below_or}
use Rattle.store_core.proofs.Compacting.{compacted_contents}

-- ---- files of the second format

pub current_consistent : (j : JournalState) (t : Tables) → IsCurrent j t → IsConsistent j t
current_consistent j t current works files tells = let held = current works files tells in (held.0, held.1, held.2)

-- after a step that holds what was held
current_on : (t : Tables) (a b : JournalState) → IsCurrent a t → a.is_broken ≡ false → Tells Kept (told a) (told b) → IsCurrent b t
current_on t a b current works kept unbroken files tells =
    let before = told_before Kept (told a) (told b) files kept tells in
    let held = current works before.0 before.1 in
    (held.0, before.2 held.0 held.1, held.2, held.3)

-- a journal that met a fault
current_broken : (t : Tables) (j : JournalState) → j.is_broken ≡ true → IsCurrent j t
current_broken t j broken works files tells = absurd (let e : true ≡ false = sym broken ∙ works in cc)

module _ (now : ℕ) (old : StoreState) (reads : ReadsSnapshot) (below : now < end_of_moments) (fits : TablesFit old.contents) (restores : Restores (table_rows old.contents) no_tables old.contents) (order : AreInOrder None (table_rows old.contents)) where
  -- a compacted file
  pub current_made : (rows : ℕ) (new : StoreState) → IsCompacted now rows old new → IsCurrent new.journal new.contents
  current_made rows new is unbroken files tells = (
    image Two (compacted_payloads (next_number old.journal.generation) now old.contents),
    is.holds files tells,
    compacted_contents (next_number old.journal.generation) now old.contents reads below fits restores order ∙ ap (λ (t : Tables). Some t) (sym is.contents),
    refl,
  )

  current_kept : (new : StoreState) → IsCurrent old.journal old.contents → old.journal.is_broken ≡ false → IsKept old new → IsCurrent new.journal new.contents
  current_kept new current works is = subst (IsCurrent new.journal) (sym is.contents) (current_on old.contents old.journal new.journal current works is.holds)

  -- whatever a compaction answers
  pub current_compacts : (least : ℕ) (end : CompactEnd) (new : StoreState) → IsCurrent old.journal old.contents → Compacts least now old end new → IsCurrent new.journal new.contents
  current_compacts least end new current compacts = go old.journal.is_broken refl
    where
      ends_as : (r : Option JournalError) → old.journal.is_broken ≡ false → EndsAs r now old end new → IsCurrent new.journal new.contents
      ends_as None works is = current_made is.0 new is.2
      ends_as (Some e) works is = current_kept new current works is.1

      made : old.journal.is_broken ≡ false → EndsAs (compact_refusal now old) now old end new ⊎ ((end ≡ ends.Failed DiskFault) × HasFaulted old new) ⊎ ((end ≡ ends.OutOfMemory) × IsKept old new) → IsCurrent new.journal new.contents
      made works (inl is) = ends_as (compact_refusal now old) works is
      made works (inr (inl is)) = current_broken new.contents new.journal (ap (λ (j : JournalState). j.is_broken) is.1.journal)
      made works (inr (inr is)) = current_kept new current works is.1

      go : (b : Bool) → old.journal.is_broken ≡ b → IsCurrent new.journal new.contents
      go true is = subst (λ (s : StoreState). IsCurrent s.journal s.contents) (sym (compacts.broken is).1) current
      go false is = elim (below_or old.journal.end least) [
        | inl short ↦ subst (λ (s : StoreState). IsCurrent s.journal s.contents) (sym (compacts.short is short).1.0) current
        | inr long ↦ made is (compacts.works is long)
      ]

-- ---- why it is refused

-- a row is too long, or has no room
abbrev IsSizeError : JournalError → Type 0
IsSizeError (TooLong n) = Unit {0}
IsSizeError (Full len) = Unit {0}
IsSizeError DiskFault = ⊥
IsSizeError (Damaged offset) = ⊥
IsSizeError Reopen = ⊥
IsSizeError NotStarted = ⊥
IsSizeError OneDisk = ⊥
IsSizeError (Spent count) = ⊥
IsSizeError OutOfMemory = ⊥

row_kind : (p : List ℕ) (at : ℕ) (e : JournalError) → row_refusal p (Some at) ≡ Some e → IsSizeError e
row_kind p at e is = go (nat_lt longest (length p)) (nat_lt most_bytes (at + 5 + length p)) is
  where
    go : (b c : Bool) → (if b then Some (TooLong (length p)) else if c then Some (Full at) else None) ≡ Some e → IsSizeError e
    go true c is = subst IsSizeError (let same : TooLong (length p) ≡ e = cc in same) tt
    go false true is = subst IsSizeError (let same : Full at ≡ e = cc in same) tt
    go false false is = absurd (let f : None ≡ Some e = is in cc)

rows_kind : (at : ℕ) (rows : List (List ℕ)) (e : JournalError) → rows_refusal at rows ≡ Some e → IsSizeError e
rows_kind at [] e is = absurd (let f : None ≡ Some e = is in cc)
rows_kind at (p ∷ ps) e is = go (row_refusal p (Some at)) (row_kind p at) (rows_kind (at + 5 + length p) ps e) is
  where
    go : (r : Option JournalError) → ((d : JournalError) → r ≡ Some d → IsSizeError d) → (rows_refusal (at + 5 + length p) ps ≡ Some e → IsSizeError e) → refused_or r (rows_refusal (at + 5 + length p) ps) ≡ Some e → IsSizeError e
    go None one rest is = rest is
    go (Some d) one rest is = one e is

size_same : (len : ℕ) (e : JournalError) → IsSizeError e → or_damaged len e ≡ e
size_same len (TooLong n) is = refl
size_same len (Full at) is = refl
size_same len DiskFault is = absurd is
size_same len (Damaged offset) is = absurd is
size_same len Reopen is = absurd is
size_same len NotStarted is = absurd is
size_same len OneDisk is = absurd is
size_same len (Spent count) is = absurd is
size_same len OutOfMemory is = absurd is

-- what an opening may be refused for by its compaction
abbrev IsMigrationError : JournalError → Type 0
IsMigrationError (TooLong n) = Unit {0}
IsMigrationError (Full len) = Unit {0}
IsMigrationError (Damaged offset) = Unit {0}
IsMigrationError DiskFault = ⊥
IsMigrationError Reopen = ⊥
IsMigrationError NotStarted = ⊥
IsMigrationError OneDisk = ⊥
IsMigrationError (Spent count) = ⊥
IsMigrationError OutOfMemory = ⊥

size_migration : (e : JournalError) → IsSizeError e → IsMigrationError e
size_migration (TooLong n) is = tt
size_migration (Full len) is = tt
size_migration DiskFault is = is
size_migration (Damaged offset) is = absurd is
size_migration Reopen is = is
size_migration NotStarted is = is
size_migration OneDisk is = is
size_migration (Spent count) is = is
size_migration OutOfMemory is = is

start_is : (a b c : Bool) (n : ℕ) → a ≡ false → b ≡ false → cond a (Some Reopen) (cond b (Some OneDisk) (cond c (Some (Spent n)) None)) ≡ cond c (Some (Spent n)) None
start_is false false c n works paired = refl
start_is true b c n works paired = absurd (let e : true ≡ false = works in cc)
start_is false true c n works paired = absurd (let e : true ≡ false = paired in cc)

module _ (old : StoreState) (works : old.journal.is_broken ≡ false) (paired : is_alone old.journal.other ≡ false) where
  abbrev rows : List (List ℕ)
  rows = snapshot_payloads 0 old.contents

  started : start_refusal old.journal ≡ cond (is_last (number old.journal.generation)) (Some (Spent (number old.journal.generation))) None
  started = start_is old.journal.is_broken (is_alone old.journal.other) (is_last (number old.journal.generation)) (number old.journal.generation) works paired

  -- the refusal, in the terms of the payloads
  refused : (cause : JournalError) (len : ℕ) → compact_refusal 0 old ≡ Some cause → IsMigrationError (or_damaged len cause) × ((payloads : List (List ℕ)) → old.journal.generation ≡ first_generation payloads → len ≡ file_length payloads → migration_refusal payloads old.contents ≡ Some (or_damaged len cause))
  refused cause len is = go (is_last (number old.journal.generation)) refl (ap (λ r. refused_or r (rows_refusal 31 rows)) (sym started) ∙ is)
    where
      go : (b : Bool) → is_last (number old.journal.generation) ≡ b → refused_or (cond (is_last (number old.journal.generation)) (Some (Spent (number old.journal.generation))) None) (rows_refusal 31 rows) ≡ Some cause → IsMigrationError (or_damaged len cause) × ((payloads : List (List ℕ)) → old.journal.generation ≡ first_generation payloads → len ≡ file_length payloads → migration_refusal payloads old.contents ≡ Some (or_damaged len cause))
      go true last is =
          let first : refused_or (cond true (Some (Spent (number old.journal.generation))) None) (rows_refusal 31 rows) ≡ Some cause = ap (λ b. refused_or (cond b (Some (Spent (number old.journal.generation))) None) (rows_refusal 31 rows)) (sym last) ∙ is in
          let same : Spent (number old.journal.generation) ≡ cause = cc in (
            subst (λ (e : JournalError). IsMigrationError (or_damaged len e)) same tt,
            λ payloads generation at.
                ap (λ b. if b then Some (Damaged (file_length payloads)) else rows_refusal 31 rows) (ap (λ n. is_last (number n)) (sym generation) ∙ last)
                ∙ ap (λ n. Some (Damaged n)) (sym at) ∙ ap (λ (e : JournalError). Some (or_damaged len e)) same,
          )
      go false last is =
          let first : rows_refusal 31 rows ≡ Some cause = ap (λ b. refused_or (cond b (Some (Spent (number old.journal.generation))) None) (rows_refusal 31 rows)) (sym last) ∙ is in
          let size : IsSizeError cause = rows_kind 31 rows cause first in
          let same : or_damaged len cause ≡ cause = size_same len cause size in (
            subst IsMigrationError (sym same) (size_migration cause size),
            λ payloads generation at.
                ap (λ b. if b then Some (Damaged (file_length payloads)) else rows_refusal 31 rows) (ap (λ n. is_last (number n)) (sym generation) ∙ last)
                ∙ first ∙ ap (λ (e : JournalError). Some e) (sym same),
          )

  -- ---- how it ends

  rewrites_refused : (T : Type 0) (e : JournalError) (new : StoreState) → IsMigrationError e → IsRefusedFor e old new → Rewrites {T = T} (Err e) old new
  rewrites_refused T (TooLong n) new kind is = is
  rewrites_refused T (Full len) new kind is = is
  rewrites_refused T (Damaged offset) new kind is = is
  rewrites_refused T DiskFault new kind is = absurd kind
  rewrites_refused T Reopen new kind is = absurd kind
  rewrites_refused T NotStarted new kind is = absurd kind
  rewrites_refused T OneDisk new kind is = absurd kind
  rewrites_refused T (Spent count) new kind is = absurd kind
  rewrites_refused T OutOfMemory new kind is = absurd kind

  rewrites_made : (T : Type 0) (r : Result T JournalError) (rows : ℕ) (new : StoreState) → is_ok r ≡ true → IsCompacted 0 rows old new → Rewrites r old new
  rewrites_made T (Ok x) rows new ok is = (rows, is)
  rewrites_made T (Err e) rows new ok is = absurd (let f : false ≡ true = ok in cc)

  module _ (len : ℕ) (has : HasNumber old.journal) (measured : (files : Files) → told old.journal ≡ Some files → (held : Image) → Holds held files → len ≡ file_length held.payloads) where
    pub rewritten : {T : Type 0} (r : Result T JournalError) (end : CompactEnd) (new : StoreState) → Compacts 0 0 old end new → migration_end len end r → Rewrites r old new
    rewritten {T} r end new compacts means = made (compacts.works works (omega arith))
      where
        ends_as : (o : Option JournalError) → compact_refusal 0 old ≡ o → EndsAs o 0 old end new → Rewrites r old new
        ends_as None free is = rewrites_made T r is.0 new (subst (λ (x : CompactEnd). migration_end len x r) is.1 means) is.2
        ends_as (Some cause) refusal is =
            let why = refused cause len refusal in
            let answer : r ≡ Err (or_damaged len cause) = subst (λ (x : CompactEnd). migration_end len x r) is.0 means in
            subst (λ (x : Result T JournalError). Rewrites x old new) (sym answer)
            (rewrites_refused T (or_damaged len cause) new why.0 ((λ files tells held holds. why.1 held.payloads (has files tells held holds) (measured files tells held holds)), is.1))

        made : EndsAs (compact_refusal 0 old) 0 old end new ⊎ ((end ≡ ends.Failed DiskFault) × HasFaulted old new) ⊎ ((end ≡ ends.OutOfMemory) × IsKept old new) → Rewrites r old new
        made (inl is) = ends_as (compact_refusal 0 old) refl is
        made (inr (inl is)) =
            let answer : r ≡ Err DiskFault = subst (λ (x : CompactEnd). migration_end len x r) is.0 means in
            subst (λ (x : Result T JournalError). Rewrites x old new) (sym answer) is.1
        made (inr (inr is)) =
            let answer : r ≡ Err OutOfMemory = subst (λ (x : CompactEnd). migration_end len x r) is.0 means in
            subst (λ (x : Result T JournalError). Rewrites x old new) (sym answer) is.1

-- what a compaction that is made leaves
pub rewritten_current : {T : Type 0} (old new : StoreState) → ReadsSnapshot → TablesFit old.contents → Restores (table_rows old.contents) no_tables old.contents → AreInOrder None (table_rows old.contents) → (r : Result T JournalError) → Rewrites r old new → OnOk r (IsCurrent new.journal new.contents)
rewritten_current old new reads fits restores order (Ok x) is = current_made 0 old reads (omega arith) fits restores order is.0 new is.1
rewritten_current old new reads fits restores order (Err e) is = tt
