-- What a crash may leave over a stretch of time: own.
use Rattle.std.specs.Prelude.{◌≡◌, ℕ, List, [], ◌++◌}
use Rattle.std.specs.List.{AllByRecursion}
use Rattle.disk_model.specs.Disk.{Instant, DiskState, moments, MayLeave}

-- whatever a crash at this moment may leave has P
abbrev pub LeavesOnly : (List ℕ → Type 0) → Instant → Type 0
LeavesOnly P i = (image : List ℕ) → MayLeave i image → P image

-- all bytes are on the disk
abbrev pub IsDurable : DiskState → Type 0
IsDurable d = d.instant ≡ record { synced = d.bytes; pending = [] }

-- The disk went on from old to new, and whatever a crash may have left at any moment after old has P.
pub record Later (P : List ℕ → Type 0) (old new : DiskState) : Type 0 where
  pub recent : List Instant
  pub grows : moments new ≡ moments old ++ recent
  pub each : AllByRecursion (LeavesOnly P) recent

-- The same, with the moment of old included.
pub record Since (P : List ℕ → Type 0) (old new : DiskState) : Type 0 where
  pub start : LeavesOnly P old.instant
  pub later : Later P old new

-- the bytes that a disk reads are among those that a crash may leave
abbrev pub ReadsAnImage : DiskState → Type 0
ReadsAnImage d = MayLeave d.instant d.bytes
