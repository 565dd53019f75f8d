-- Compacting a store: the contents are written anew to the file that isn't live. Own.
use Rattle.std.specs.Prelude.{◌≡◌, ◌⊎◌, ◌<◌, ◌≤◌, ◌+◌, ℕ, Bool, true, false, not, List, [], ◌∷◌, ◌++◌, length, Option, None, Some, Result, Ok, Err}
use Rattle.disk_model.specs.Disk.{Tells}
use Rattle.store_tables.specs.Tables.{Tables}
use Rattle.store_tables.specs.Rows.{table_rows}
use Rattle.store_payloads.specs.Laws.{snapshot_payloads}
use Rattle.tx_journal.specs.declared.error.JournalError.{JournalError}
use Rattle.tx_journal.specs.declared.error.JournalError.TheVariants as errors
use Rattle.tx_journal.specs.declared.format.Format.TheVariants.{Two}
use Rattle.tx_journal.specs.File.{image}
use Rattle.tx_journal.specs.Calls.{JournalState, told, next_number, start_refusal, is_alone, row_refusal, staged_payloads, Kept, OtherKeeps, OtherRises}
use Rattle.tx_journal.specs.Pair.{Files, Holds, SinceOpened}
use Rattle.store_core.specs.declared.events.CompactEnd.{CompactEnd}
use Rattle.store_core.specs.declared.events.CompactEnd.TheVariants.{Compacted, NotNeeded, Failed, OutOfMemory}
use Rattle.store_core.specs.Contents.{compacted_payloads, OpensWith}
use Rattle.store_core.specs.Store.{StoreState, IsConsistent, Leaves, Rests}

-- ---- why a compaction isn't made

-- the first cause, if there is one
abbrev pub refused_or : Option JournalError → Option JournalError → Option JournalError
refused_or None later = later
refused_or (Some e) later = Some e

-- the first row that is too long or has no room, if the next one goes to this offset
abbrev pub rows_refusal : ℕ → List (List ℕ) → Option JournalError
rows_refusal at [] = None
rows_refusal at (p ∷ ps) = refused_or (row_refusal p (Some at)) (rows_refusal (at + 5 + length p) ps)

-- where the row behind these goes
abbrev pub rows_end : ℕ → List (List ℕ) → ℕ
rows_end at [] = at
rows_end at (p ∷ ps) = rows_end (at + 5 + length p) ps

-- the number of the live file is the last, or a row has no place; the first row goes behind the Generation
abbrev pub compact_refusal : ℕ → StoreState → Option JournalError
compact_refusal now s = refused_or (start_refusal s.journal) (rows_refusal 31 (snapshot_payloads now s.contents))

-- ---- what it leaves

-- whatever a crash leaves at any moment of the step opens with the contents
abbrev pub RisksNothing : StoreState → StoreState → Type 0
RisksNothing old new = Tells (SinceOpened (OpensWith old.contents)) (told old.journal) (told new.journal)

-- The contents and the live file are as they were. The other file may have rows of a compaction that isn't made.
pub record IsKept (old new : StoreState) : Type 0 where
  pub contents : new.contents ≡ old.contents
  pub journal : new.journal ≡ record old.journal { other = new.journal.other; staged = new.journal.staged }
  pub holds : Tells Kept (told old.journal) (told new.journal)
  pub leaves : Leaves old.contents new
  pub risks : RisksNothing old new

-- The file that wasn't live is the live one. It has a Generation one above, and then a row for each entry.
pub record IsCompacted (now rows : ℕ) (old new : StoreState) : Type 0 where
  pub count : rows ≡ length (table_rows old.contents)
  pub contents : new.contents ≡ old.contents
  pub journal :
      new.journal
      ≡ record { live = new.journal.live; other = Some old.journal.live; is_second_live = not old.journal.is_second_live; format = Two; generation = Some (next_number old.journal.generation); end = rows_end 31 (snapshot_payloads now old.contents); staged = None; is_broken = false }
  pub holds : (files : Files) → told new.journal ≡ Some files → Holds (image Two (compacted_payloads (next_number old.journal.generation) now old.contents)) files
  pub leaves : Leaves old.contents new
  pub risks : RisksNothing old new

-- the disk that isn't live failed; until the store is opened again, whatever a crash leaves opens with the contents
pub record HasFaulted (old new : StoreState) : Type 0 where
  pub contents : new.contents ≡ old.contents
  pub journal : new.journal ≡ record old.journal { other = new.journal.other; staged = new.journal.staged; is_broken = true }
  pub rises : OtherRises old.journal.other new.journal.other
  pub leaves : Leaves old.contents new
  pub risks : RisksNothing old new

-- how a compaction ends that met this
abbrev pub end_by : JournalError → CompactEnd
end_by errors.DiskFault = Failed errors.DiskFault
end_by (errors.Damaged offset) = Failed (errors.Damaged offset)
end_by (errors.TooLong n) = Failed (errors.TooLong n)
end_by (errors.Full len) = Failed (errors.Full len)
end_by errors.Reopen = Failed errors.Reopen
end_by errors.NotStarted = Failed errors.NotStarted
end_by errors.OneDisk = Failed errors.OneDisk
end_by (errors.Spent count) = Failed (errors.Spent count)
end_by errors.OutOfMemory = OutOfMemory

-- a compaction that isn't refused and finds memory and a working disk is made
abbrev pub EndsAs : Option JournalError → ℕ → StoreState → CompactEnd → StoreState → Type 0
EndsAs None now old end new = (rows : ℕ) × (end ≡ Compacted rows) × IsCompacted now rows old new
EndsAs (Some e) now old end new = (end ≡ Failed e) × IsKept old new

-- What a compaction may answer, and what the store is then. One that met a fault answers Reopen, and nothing changes. A
-- live file that is short enough isn't compacted.
pub record Compacts (least now : ℕ) (old : StoreState) (end : CompactEnd) (new : StoreState) : Type 0 where
  pub broken : old.journal.is_broken ≡ true → (end ≡ Failed errors.Reopen) × (new ≡ old)
  pub short : old.journal.is_broken ≡ false → old.journal.end < least → (end ≡ NotNeeded old.journal.end) × Rests old new
  pub works :
      old.journal.is_broken ≡ false → least ≤ old.journal.end
      → EndsAs (compact_refusal now old) now old end new ⊎ ((end ≡ Failed errors.DiskFault) × HasFaulted old new) ⊎ ((end ≡ OutOfMemory) × IsKept old new)

-- ---- writing rows

-- the other file has these rows too
abbrev pub HasRows : Bool → List (List ℕ) → Files → Files → Type 0
HasRows is_second_live rows old new = (before : List (List ℕ)) → staged_payloads is_second_live old ≡ Ok before → staged_payloads is_second_live new ≡ Ok (before ++ rows)

-- whatever a crash leaves at any moment since then opens with these contents
abbrev pub Keeps : Tables → JournalState → JournalState → Type 0
Keeps t old new = Tells (SinceOpened (OpensWith t)) (told old) (told new)

-- a compaction is under way
pub record MayAdd (j : JournalState) : Type 0 where
  pub works : j.is_broken ≡ false
  pub paired : is_alone j.other ≡ false
  pub at : ℕ
  pub started : j.staged ≡ Some at

-- The rows were added to a compaction that was under way, the first of them at this offset. The live file is as it was.
pub record IsStaged (t : Tables) (rows : List (List ℕ)) (old new : JournalState) : Type 0 where
  pub at : ℕ
  pub from : old.staged ≡ Some at
  pub fits : rows_refusal at rows ≡ None
  pub journal : new ≡ record old { other = new.other; staged = Some (rows_end at rows) }
  pub paired : is_alone new.other ≡ false
  pub count : OtherKeeps old.other new.other
  pub has : Tells (HasRows old.is_second_live rows) (told old) (told new)
  pub holds : Tells Kept (told old) (told new)
  pub consistent : IsConsistent new t
  pub keeps : Keeps t old new

-- not all were added, and the journal goes on
pub record IsStopped (t : Tables) (old new : JournalState) : Type 0 where
  pub journal : new ≡ record old { other = new.other; staged = new.staged }
  pub paired : is_alone new.other ≡ false
  pub holds : Tells Kept (told old) (told new)
  pub consistent : IsConsistent new t
  pub keeps : Keeps t old new

-- one of them was refused for this
pub record IsRefused (t : Tables) (rows : List (List ℕ)) (e : JournalError) (old new : JournalState) : Type 0 where
  pub at : ℕ
  pub from : old.staged ≡ Some at
  pub refused : rows_refusal at rows ≡ Some e
  pub stopped : IsStopped t old new

-- the disk that isn't live failed
pub record IsHit (t : Tables) (old new : JournalState) : Type 0 where
  pub journal : new ≡ record old { other = new.other; staged = new.staged; is_broken = true }
  pub paired : is_alone new.other ≡ false
  pub rises : OtherRises old.other new.other
  pub keeps : Keeps t old new

-- why rows were not added
abbrev pub Misses : Tables → List (List ℕ) → JournalError → JournalState → JournalState → Type 0
Misses t rows errors.DiskFault old new = IsHit t old new
Misses t rows errors.OutOfMemory old new = IsStopped t old new
Misses t rows (errors.TooLong n) old new = IsRefused t rows (errors.TooLong n) old new
Misses t rows (errors.Full len) old new = IsRefused t rows (errors.Full len) old new
Misses t rows (errors.Damaged offset) old new = ⊥
Misses t rows errors.Reopen old new = ⊥
Misses t rows errors.NotStarted old new = ⊥
Misses t rows errors.OneDisk old new = ⊥
Misses t rows (errors.Spent count) old new = ⊥

-- a row is added, or it isn't
abbrev pub AddsRow : {T : Type 0} → Tables → List ℕ → Result T JournalError → JournalState → JournalState → Type 0
AddsRow t row (Ok x) old new = IsStaged t (row ∷ []) old new
AddsRow t row (Err e) old new = Misses t (row ∷ []) e old new

-- the same after so many others
abbrev pub counted : ℕ → Result ℕ JournalError → Result ℕ JournalError
counted count (Ok more) = Ok (count + more)
counted count (Err e) = Err e

-- The rows are added one after another, up to the first that is refused.
abbrev pub AddsAll : Tables → List (List ℕ) → Result ℕ JournalError → JournalState → JournalState → Type 0
AddsAll t rows (Ok count) old new = (count ≡ length rows) × IsStaged t rows old new
AddsAll t rows (Err e) old new = Misses t rows e old new
