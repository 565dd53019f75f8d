-- The file that a compaction writes, until its gate is opened: own.
use Rattle.std.specs.Prelude.{◌≡◌, ◌≢◌, ◌⊎◌, ◌≤◌, ℕ, ◌+◌, Bool, true, false, List, [], ◌∷◌, ◌++◌, length}
use Rattle.std.specs.List.{AllByRecursion}
use Rattle.disk_model.specs.Disk.{DiskState}
use Rattle.disk_model.specs.Crash.{IsDurable, Later, Since}
use Rattle.disk_model.specs.declared.change.Change.{Change}
use Rattle.disk_model.specs.declared.change.Change.TheVariants.{Over, CutTo}
use Rattle.tx_journal.specs.declared.format.Format.TheVariants.{Two}
use Rattle.tx_journal.specs.File.{most_bytes, is_made, FileMade, opened, framed, IsShort}
use Rattle.tx_journal.specs.Pair.{generation_row}
use Rattle.tx_journal.specs.Journal.{IsAtRest}

-- a change that leaves the first byte as it is
abbrev pub IsBehind : Change → Type 0
IsBehind (Over at n) = 1 ≤ at
IsBehind (CutTo len) = 1 ≤ len

-- A file whose first byte is closed on the disk, and whose changes since the last sync, however many, are all behind
-- that byte.
pub record IsShutFront (d : DiskState) : Type 0 where
  pub gate : ℕ
  pub shut : gate ≢ 1
  pub synced : (rest : List ℕ) × (d.instant.synced ≡ gate ∷ rest)
  pub reads : (rest : List ℕ) × (d.bytes ≡ gate ∷ rest)
  pub behind : AllByRecursion IsBehind d.instant.pending

-- the file isn't made
abbrev pub IsUnmade : List ℕ → Type 0
IsUnmade file = is_made file ≡ false

-- a step of a compaction keeps the first byte closed, and a crash at any later moment of it leaves a file that isn't
-- made
abbrev pub StaysUnmade : DiskState → DiskState → Type 0
StaysUnmade d e = IsShutFront d → IsShutFront e × Later IsUnmade d e

-- the file is this one, or it isn't made
abbrev pub IsMadeOrNot : List ℕ → List ℕ → Type 0
IsMadeOrNot made file = (is_made file ≡ false) ⊎ (file ≡ made)

-- a crash in the last steps leaves the file as it reads now but with an open gate, or one that isn't made
abbrev pub Finishes : DiskState → DiskState → Type 0
Finishes d e = IsShutFront d → Since (IsMadeOrNot (opened d.bytes)) d e

-- they are done
abbrev pub IsFinished : DiskState → DiskState → Type 0
IsFinished d e = IsShutFront d → (e.bytes ≡ opened d.bytes) × IsDurable e

-- a file whose gate may be written: a made one, or one of at most one byte
abbrev pub MayBeShut : List ℕ → Type 0
MayBeShut bytes = FileMade bytes ⊎ (length bytes ≤ 1)

-- a disk on which a compaction may start: its gate is closed, or may be closed
abbrev pub MayStart : Bool → DiskState → Type 0
MayStart true d = IsShutFront d
MayStart false d = IsDurable d × MayBeShut d.bytes

-- while the gate is being closed, a crash leaves the file as it was, or one that isn't made
abbrev pub Closes : DiskState → DiskState → Type 0
Closes d e = Later (IsMadeOrNot d.bytes) d e

-- it is closed
abbrev pub IsClosed : DiskState → DiskState → Type 0
IsClosed d e = IsShutFront e

-- these bytes follow the first byte, and nothing else does
abbrev pub WritesFront : List ℕ → DiskState → DiskState → Type 0
WritesFront front d e = IsShutFront d → opened e.bytes ≡ 1 ∷ front

-- the file has its first row, behind a closed gate
abbrev pub HasFirstRow : ℕ → DiskState → Type 0
HasFirstRow number d = IsAtRest Two Two (generation_row number ∷ []) 31 (opened d.bytes)

-- the start of a compaction: a crash at any moment of it leaves the file as it was, or one that isn't made
abbrev pub Begins : Bool → DiskState → DiskState → Type 0
Begins is_shut d e = MayStart is_shut d → Since (IsMadeOrNot d.bytes) d e

-- it is done
abbrev pub HasBegunFile : Bool → ℕ → DiskState → DiskState → Type 0
HasBegunFile is_shut number d e = MayStart is_shut d → IsShutFront e × HasFirstRow number e

-- one more row behind the others
abbrev pub AddsRow : ℕ → List ℕ → DiskState → DiskState → Type 0
AddsRow at bytes d e = (rows : List (List ℕ)) (payload : List ℕ) → IsShutFront d → IsAtRest Two Two rows at (opened d.bytes) → IsShort payload → bytes ≡ 1 ∷ framed payload ++ 0 ∷ [] → at + 5 + length payload ≤ most_bytes
    → IsAtRest Two Two (rows ++ payload ∷ []) (at + 5 + length payload) (opened e.bytes)
