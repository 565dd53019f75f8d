-- Opening a store: what it contains, why it is refused, and what a crash leaves. Own.
use Rattle.std.specs.Prelude.{◌≡◌, ◌≤◌, ◌⊎◌, ℕ, ◌+◌, Bool, true, false, List, [], ◌∷◌, length, take, drop, Option, None, Some, Ok}
use Rattle.disk_model.specs.Disk.{DiskState, Tells}
use Rattle.store_tables.specs.Tables.{Tables, no_tables}
use Rattle.store_payloads.specs.FirstForm.{reading_in}
use Rattle.store_payloads.specs.Folds.{Folded, folded, start}
use Rattle.tx_journal.specs.declared.error.JournalError.{JournalError}
use Rattle.tx_journal.specs.declared.error.JournalError.TheVariants.{DiskFault, Damaged, TooLong, Full, Reopen, NotStarted, OneDisk, Spent, OutOfMemory}
use Rattle.tx_journal.specs.declared.format.Format.TheVariants.{One, Two}
use Rattle.tx_journal.specs.File.{most_bytes, name, Image, image}
use Rattle.tx_journal.specs.Pair.{Files, Holds, first_generation, live_bytes, read_files, LeavesOpened, SinceOpened}
use Rattle.tx_journal.specs.Calls.{Side, JournalState, told, next_number, is_making, FindsIn, IsNumbered, RefusesFiles, KeepsFiles}
use Rattle.store_core.specs.Contents.{contents_of, is_old, compacted_payloads, OpensWith}
use Rattle.store_core.specs.Store.{StoreState}
use Rattle.store_core.specs.Migrations.{migration_refusal}

-- nothing if the first file is made, and otherwise what the live one leads to
abbrev pub FindsTables : Bool → Files → Tables → Type 0
FindsTables true files t = t ≡ no_tables
FindsTables false files t = (found : Image) × (read_files files ≡ Ok found) × (contents_of found ≡ Some t)

-- an opening that is done; whatever a crash leaves from now on opens with the same contents. The live file wasn't longer
-- than a journal takes.
abbrev pub OpensStore : Bool → Tables → Files → Files → Type 0
OpensStore create t old new = FindsTables (is_making create old.first old.second) old t × LeavesOpened (OpensWith t) new × (length (live_bytes old.first old.second) ≤ most_bytes)

-- the offset of the first payload that has no reading where it comes, if the first one is here
abbrev pub fault_by : Option Folded → ℕ → (Folded → Option ℕ) → Option ℕ
fault_by None at later = Some at
fault_by (Some f) at later = later f

-- A payload is behind its gate and its length. The first number is the offset of the first payload.
abbrev pub fault_from : Bool → ℕ → List (List ℕ) → Folded → Option ℕ
fault_from is_first at [] f = None
fault_from is_first at (p ∷ ps) f = fault_by (folded (reading_in is_first p) f) at (λ g. fault_from is_first (at + 5 + length p) ps g)

abbrev pub fault_behind : Bool → Option ℕ → List (List ℕ) → Option ℕ
fault_behind is_first None payloads = fault_from is_first 13 payloads (start false)
fault_behind is_first (Some n) [] = None
fault_behind is_first (Some n) (p ∷ ps) = fault_from is_first (18 + length p) ps (start true)

-- the first payload of a file is at 13, behind its name, gate and length; a Generation there isn't folded
abbrev pub payloads_fault : Image → Option ℕ
payloads_fault found = fault_behind (is_old found.format) (first_generation found.payloads) found.payloads

-- ---- an old file, which is compacted before the opening is done

-- the live file that an opening reads is of the first format
abbrev pub FindsOld : Bool → Files → Type 0
FindsOld create files = (is_making create files.first files.second ≡ false) × (found : Image) × (read_files files ≡ Ok found) × (found.format ≡ One)

-- it is, and has contents, but their compaction is refused for this
pub record RefusesMigration (create : Bool) (e : JournalError) (files : Files) : Type 0 where
  pub reads : is_making create files.first files.second ≡ false
  pub found : Image
  pub is : read_files files ≡ Ok found
  pub old : found.format ≡ One
  pub contents : Tables
  pub leads : contents_of found ≡ Some contents
  pub refused : migration_refusal found.payloads contents ≡ Some e

-- a file of the first format
abbrev pub HasFirstName : Option DiskState → Type 0
HasFirstName None = ⊥
HasFirstName (Some d) = take 7 (drop 1 d.bytes) ≡ name One

-- the same of one of a journal's disks, if it tells what it holds
abbrev pub IsOfFirstFormat : Option Side → Type 0
IsOfFirstFormat None = ⊥
IsOfFirstFormat (Some side) = (d : DiskState) → side.told ≡ Some d → HasFirstName (Some d)

-- The files are as they were read, or the first one was made. The journal's number is the one in the live file.
pub record IsUnchanged (create : Bool) (before : Option Files) (j : JournalState) : Type 0 where
  pub number : IsNumbered j
  pub files : Tells (KeepsFiles create) before (told j)

-- The live file is the one that the opening wrote, with a number one above that of the file that it read. That one was
-- of the first format, and is the other file now.
pub record IsMigrated (create : Bool) (before : Option Files) (s : StoreState) : Type 0 where
  pub count : ℕ
  pub generation : s.journal.generation ≡ Some count
  pub above : (files : Files) → before ≡ Some files → (found : Image) → FindsIn (is_making create files.first files.second) files found → count ≡ next_number (first_generation found.payloads)
  pub holds : (files : Files) → told s.journal ≡ Some files → Holds (image Two (compacted_payloads count 0 s.contents)) files
  pub old : (files : Files) → before ≡ Some files → FindsOld create files
  pub other : IsOfFirstFormat s.journal.other

-- Until the files are opened, a crash leaves them as they were read; from then on, whatever it leaves opens with the
-- same contents.
abbrev pub Migrates : Bool → Tables → Files → Files → Type 0
Migrates create t old new = FindsTables (is_making create old.first old.second) old t × (mid : Files) × KeepsFiles create old mid × SinceOpened (OpensWith t) mid new

-- what a crash in an opening may leave: the files as they were read or made, or, of an old one, those of a compaction
abbrev pub KeepsStore : Bool → Files → Files → Type 0
KeepsStore create old new = KeepsFiles create old new ⊎ (FindsOld create old × (t : Tables) × Migrates create t old new)

-- ---- refusals

-- what an opening may be refused for
abbrev pub IsStoreOpenError : JournalError → Type 0
IsStoreOpenError DiskFault = Unit {0}
IsStoreOpenError (Damaged offset) = Unit {0}
IsStoreOpenError (TooLong n) = Unit {0}
IsStoreOpenError (Full len) = Unit {0}
IsStoreOpenError Reopen = ⊥
IsStoreOpenError NotStarted = ⊥
IsStoreOpenError OneDisk = ⊥
IsStoreOpenError (Spent count) = ⊥
IsStoreOpenError OutOfMemory = Unit {0}

-- a payload that isn't read
abbrev pub RefusesPayload : Bool → ℕ → Files → Type 0
RefusesPayload create offset files = (is_making create files.first files.second ≡ false) × (found : Image) × (read_files files ≡ Ok found) × (payloads_fault found ≡ Some offset)

-- The cause of a refused opening: that of the journal, a payload that isn't read, or that of the compaction.
abbrev pub RefusesStore : Bool → JournalError → Files → Type 0
RefusesStore create (Damaged offset) files = RefusesFiles create (Damaged offset) files ⊎ RefusesPayload create offset files ⊎ RefusesMigration create (Damaged offset) files
RefusesStore create DiskFault files = RefusesFiles create DiskFault files
RefusesStore create (TooLong n) files = RefusesMigration create (TooLong n) files
RefusesStore create (Full len) files = RefusesFiles create (Full len) files ⊎ RefusesMigration create (Full len) files
RefusesStore create Reopen files = RefusesFiles create Reopen files
RefusesStore create NotStarted files = RefusesFiles create NotStarted files
RefusesStore create OneDisk files = RefusesFiles create OneDisk files
RefusesStore create (Spent count) files = RefusesFiles create (Spent count) files
RefusesStore create OutOfMemory files = RefusesFiles create OutOfMemory files

-- ---- files with contents

-- the payloads of a file that leads to contents have a reading, each where it comes
abbrev pub HaveReadings : Type 0
HaveReadings = (held : Image) (t : Tables) → contents_of held ≡ Some t → payloads_fault held ≡ None

-- why files with contents may be refused: by a disk, by want of memory, or because their compaction is
abbrev pub MayRefuse : Bool → JournalError → Files → Type 0
MayRefuse create DiskFault files = Unit {0}
MayRefuse create (Damaged offset) files = RefusesMigration create (Damaged offset) files
MayRefuse create (TooLong n) files = RefusesMigration create (TooLong n) files
MayRefuse create (Full len) files = RefusesMigration create (Full len) files
MayRefuse create Reopen files = ⊥
MayRefuse create NotStarted files = ⊥
MayRefuse create OneDisk files = ⊥
MayRefuse create (Spent count) files = ⊥
MayRefuse create OutOfMemory files = Unit {0}

-- files with contents, of which the live one is no longer than a journal takes, are refused for nothing else
abbrev pub RefusesContents : Type 0
RefusesContents =
    (t : Tables) (create : Bool) (e : JournalError) (files : Files)
    → OpensWith t (read_files files) → length (live_bytes files.first files.second) ≤ most_bytes → RefusesStore create e files → MayRefuse create e files

-- if the live one isn't old, then only by a disk or by want of memory
abbrev pub RefusesToday : Type 0
RefusesToday =
    (t : Tables) (create : Bool) (e : JournalError) (files : Files)
    → OpensWith t (read_files files) → length (live_bytes files.first files.second) ≤ most_bytes → RefusesStore create e files → (e ≡ DiskFault) ⊎ (e ≡ OutOfMemory) ⊎ FindsOld create files

-- ---- reading an opened journal

-- the offset of the first payload that is folded, behind a Generation or without one
abbrev pub first_place : Bool → ℕ
first_place true = 35
first_place false = 13

-- what it holds leads to these tables
abbrev pub IsFolded : Tables → JournalState → Type 0
IsFolded t j = (files : Files) → told j ≡ Some files → (held : Image) → Holds held files → contents_of held ≡ Some t

-- why it leads to none: the offset is that of the first one without a reading
abbrev pub IsFoldFault : JournalError → JournalState → Type 0
IsFoldFault (Damaged offset) j = (files : Files) → told j ≡ Some files → (held : Image) → Holds held files → payloads_fault held ≡ Some offset
IsFoldFault DiskFault j = Unit {0}
IsFoldFault (TooLong n) j = ⊥
IsFoldFault (Full len) j = ⊥
IsFoldFault Reopen j = ⊥
IsFoldFault NotStarted j = ⊥
IsFoldFault OneDisk j = ⊥
IsFoldFault (Spent count) j = ⊥
IsFoldFault OutOfMemory j = Unit {0}

-- the form of the payloads that it holds
abbrev pub HasForm : Bool → JournalState → Type 0
HasForm is_first j = (files : Files) → told j ≡ Some files → (held : Image) → Holds held files → is_old held.format ≡ is_first
