-- What an opening of two files found: own.
use Rattle.std.specs.Prelude.{◌≡◌, ◌⊎◌, ◌≤◌, ℕ, Bool, true, false, not, ◌&&◌, Option, Some, None, Result, Ok, Err, nat_lt}
use Rattle.disk_model.specs.Disk.{DiskState}
use Rattle.disk_model.specs.Crash.{IsDurable, Later}
use Rattle.tx_journal.specs.declared.error.JournalError.{JournalError}
use Rattle.tx_journal.specs.declared.error.JournalError.TheVariants.{DiskFault, Damaged, TooLong, Full, Reopen, NotStarted, OneDisk, Spent, OutOfMemory}
use Rattle.tx_journal.specs.declared.format.Format.TheVariants.{Two}
use Rattle.tx_journal.specs.declared.survey.Seen.{Seen}
use Rattle.tx_journal.specs.declared.pair.Found.{Found}
use Rattle.tx_journal.specs.declared.find.Cursor.{Cursor}
use Rattle.tx_journal.specs.Journal.{Rises, IsSame}
use Rattle.tx_journal.specs.Seen.{is_made_kind}
use Rattle.tx_journal.specs.Sound.{IsLive, Waits}

-- a sync, done or failed: reads give what they gave before, and a later crash leaves just that
abbrev pub Synced : DiskState → DiskState → Type 0
Synced d e = Later (IsSame d.bytes) d e × (e.bytes ≡ d.bytes)

-- it is done
abbrev pub IsSynced : DiskState → DiskState → Type 0
IsSynced d e = IsDurable e

-- after Ok neither count of faults has fallen; after DiskFault one of them rose or is at its maximum
abbrev pub CostsBoth : {T : Type 0} → ℕ → ℕ → ℕ → ℕ → Result T JournalError → Type 0
CostsBoth first first_new second second_new (Ok x) = (first ≤ first_new) × (second ≤ second_new)
CostsBoth first first_new second second_new (Err DiskFault) = Rises first first_new ⊎ Rises second second_new
CostsBoth first first_new second second_new (Err (Damaged offset)) = Unit {0}
CostsBoth first first_new second second_new (Err (TooLong n)) = Unit {0}
CostsBoth first first_new second second_new (Err (Full len)) = Unit {0}
CostsBoth first first_new second second_new (Err Reopen) = Unit {0}
CostsBoth first first_new second second_new (Err NotStarted) = Unit {0}
CostsBoth first first_new second second_new (Err OneDisk) = Unit {0}
CostsBoth first first_new second second_new (Err (Spent count)) = Unit {0}
CostsBoth first first_new second second_new (Err OutOfMemory) = Unit {0}

-- by what was seen, the file isn't made and has at least two bytes, so that its gate is closed
abbrev pub is_closed_seen : Seen → Bool
is_closed_seen seen = not (is_made_kind seen.kind) && nat_lt 1 seen.len

-- the cursor of the first record
abbrev pub at_first : Cursor
at_first = record { index = 0; gate = 8 }

-- the disk of the live file
abbrev pub live_told : Bool → Option DiskState → Option DiskState → Option DiskState
live_told true first second = second
live_told false first second = first

-- the disk of the other file
abbrev pub other_told : Bool → Option DiskState → Option DiskState → Option DiskState
other_told true first second = first
other_told false first second = second

-- what was found is true of the disks
pub record IsFound (found : Found) (first second : Option DiskState) : Type 0 where
  pub live : (d : DiskState) → live_told found.is_second_live first second ≡ Some d → IsLive Two found.format found.generation found.end at_first d
  pub waits : (d : DiskState) → other_told found.is_second_live first second ≡ Some d → Waits found.is_second_live found.generation found.is_shut None d
