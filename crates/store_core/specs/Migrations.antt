-- The compaction that an opening makes of an old file, with 0 as the moment of each row. Own.
use Rattle.std.specs.Prelude.{◌≡◌, ℕ, true, false, if◌then◌else◌, List, take, drop, Option, None, Some, Result, Ok, Err, is_ok}
use Rattle.disk_model.specs.Disk.{DiskState}
use Rattle.store_tables.specs.Tables.{Tables}
use Rattle.store_payloads.specs.Laws.{snapshot_payloads}
use Rattle.tx_journal.specs.declared.error.JournalError.{JournalError}
use Rattle.tx_journal.specs.declared.error.JournalError.TheVariants.{DiskFault, Damaged, TooLong, Full, Reopen, NotStarted, OneDisk, Spent, OutOfMemory}
use Rattle.tx_journal.specs.File.{Image, name, file_length}
use Rattle.tx_journal.specs.Calls.{JournalState, told, is_last}
use Rattle.tx_journal.specs.Pair.{Files, Holds, number, first_generation}
use Rattle.store_core.specs.declared.events.CompactEnd.{CompactEnd}
use Rattle.store_core.specs.declared.events.CompactEnd.TheVariants as ends
use Rattle.store_core.specs.Store.{StoreState}
use Rattle.store_core.specs.Compacts.{rows_refusal, IsKept, IsCompacted, HasFaulted}

-- the number of the file is the last, which counts as damaged at its end; or a row is too long, or has no room
abbrev pub migration_refusal : List (List ℕ) → Tables → Option JournalError
migration_refusal payloads t = if is_last (number (first_generation payloads)) then Some (Damaged (file_length payloads)) else rows_refusal 31 (snapshot_payloads 0 t)

-- the journal's number is the one in its first payload
abbrev pub HasNumber : JournalState → Type 0
HasNumber j = (files : Files) → told j ≡ Some files → (held : Image) → Holds held files → j.generation ≡ first_generation held.payloads

-- the name of the live file is that of its format
abbrev pub IsNamed : JournalState → Type 0
IsNamed j = j.is_broken ≡ false → (d : DiskState) → j.live.told ≡ Some d → take 7 (drop 1 d.bytes) ≡ name j.format

-- what an opening answers in place of an error of the compaction
abbrev pub or_damaged : ℕ → JournalError → JournalError
or_damaged len (Spent count) = Damaged len
or_damaged len DiskFault = DiskFault
or_damaged len (Damaged offset) = Damaged offset
or_damaged len (TooLong n) = TooLong n
or_damaged len (Full at) = Full at
or_damaged len Reopen = Reopen
or_damaged len NotStarted = NotStarted
or_damaged len OneDisk = OneDisk
or_damaged len OutOfMemory = OutOfMemory

-- what the end of the compaction of a file of this length means to the opening
abbrev pub migration_end : {T : Type 0} → ℕ → CompactEnd → Result T JournalError → Type 0
migration_end len (ends.Compacted rows) r = is_ok r ≡ true
migration_end len (ends.NotNeeded at) r = r ≡ Err OutOfMemory
migration_end len (ends.Failed error) r = r ≡ Err (or_damaged len error)
migration_end len ends.OutOfMemory r = r ≡ Err OutOfMemory

-- it was refused for this, and the contents and the live file are as they were
abbrev pub IsRefusedFor : JournalError → StoreState → StoreState → Type 0
IsRefusedFor e old new =
    ((files : Files) → told old.journal ≡ Some files → (held : Image) → Holds held files → migration_refusal held.payloads old.contents ≡ Some e)
    × IsKept old new

-- the live file is the new one, or the compaction isn't made
abbrev pub Rewrites : {T : Type 0} → Result T JournalError → StoreState → StoreState → Type 0
Rewrites (Ok x) old new = (rows : ℕ) × IsCompacted 0 rows old new
Rewrites (Err DiskFault) old new = HasFaulted old new
Rewrites (Err (Damaged offset)) old new = IsRefusedFor (Damaged offset) old new
Rewrites (Err (TooLong n)) old new = IsRefusedFor (TooLong n) old new
Rewrites (Err (Full len)) old new = IsRefusedFor (Full len) old new
Rewrites (Err Reopen) old new = ⊥
Rewrites (Err NotStarted) old new = ⊥
Rewrites (Err OneDisk) old new = ⊥
Rewrites (Err (Spent count)) old new = ⊥
Rewrites (Err OutOfMemory) old new = IsKept old new
