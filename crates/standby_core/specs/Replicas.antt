-- Calls on a disk, and the replica that they make of its bytes. Own.
use Rattle.std.specs.Prelude.{◌≡◌, ◌⊎◌, ◌≤◌, ℕ, suc, ◌+◌, List, [], ◌∷◌, ◌++◌, length, take, Option, Some, None}
use Rattle.disk_model.specs.declared.change.Change.TheVariants.{Over, CutTo}
use Rattle.disk_model.specs.Disk.{DiskState, overwritten, changed, flushed}
use Rattle.frame_wire.specs.declared.mirror.MirrorCommand.{MirrorCommand}
use Rattle.frame_wire.specs.declared.mirror.MirrorCommand.TheVariants.{Write, Cut, Sync}
use Rattle.frame_wire.specs.Mirrors.{most_piece}

-- the bytes after a call
abbrev pub bytes_after : List ℕ → MirrorCommand → List ℕ
bytes_after bytes (Write at new) = overwritten bytes at new
bytes_after bytes (Cut len) = take len bytes
bytes_after bytes Sync = bytes

-- the bytes after these calls, in order
abbrev pub replica_after : List ℕ → List MirrorCommand → List ℕ
replica_after bytes [] = bytes
replica_after bytes (call ∷ calls) = replica_after (bytes_after bytes call) calls

-- A replica when n of the calls were answered: it has the bytes after these, or after these and the one under way.
abbrev pub ReplicaOf : List ℕ → List MirrorCommand → ℕ → List ℕ → Type 0
ReplicaOf bytes calls n replica = (replica ≡ replica_after bytes (take n calls)) ⊎ (replica ≡ replica_after bytes (take (suc n) calls))

-- a call isn't past the end of so many bytes
abbrev pub IsWithin : List ℕ → MirrorCommand → Type 0
IsWithin bytes (Write at new) = at ≤ length bytes
IsWithin bytes (Cut len) = len ≤ length bytes
IsWithin bytes Sync = Unit {0}

abbrev pub AreWithin : List ℕ → List MirrorCommand → Type 0
AreWithin bytes [] = Unit {0}
AreWithin bytes (call ∷ calls) = IsWithin bytes call × AreWithin (bytes_after bytes call) calls

-- the disk after a call that was done, and after several
abbrev pub disk_after : DiskState → MirrorCommand → DiskState
disk_after d (Write at new) = changed d (Over at (length new)) (overwritten d.bytes at new)
disk_after d (Cut len) = changed d (CutTo len) (take len d.bytes)
disk_after d Sync = flushed d

abbrev pub disk_after_all : DiskState → List MirrorCommand → DiskState
disk_after_all d [] = d
disk_after_all d (call ∷ calls) = disk_after_all (disk_after d call) calls

-- ---- the pieces of a write

-- these writes, each of which begins where the one before it ends, and `rest`, are the bytes, from that place on
abbrev pub ArePieces : ℕ → List ℕ → List MirrorCommand → List ℕ → Type 0
ArePieces at bytes [] rest = bytes ≡ rest
ArePieces at bytes (Write place new ∷ calls) rest = (place ≡ at) × (length new ≤ most_piece) × ((left : List ℕ) × (bytes ≡ new ++ left) × ArePieces (at + length new) left calls rest)
ArePieces at bytes (Cut len ∷ calls) rest = ⊥
ArePieces at bytes (Sync ∷ calls) rest = ⊥

-- ---- the calls by which a standby's disk gets the bytes of another

abbrev pub first_of : List ℕ → Option ℕ
first_of [] = None
first_of (b ∷ bytes) = Some b

-- the first byte comes last; a disk that has none is cut to nothing
abbrev pub first_call : Option ℕ → MirrorCommand
first_call None = Cut 0
first_call (Some b) = Write 0 (b ∷ [])

-- a disk that has no made file, with the bytes that these calls write behind its first
abbrev pub opening_calls : List MirrorCommand → List MirrorCommand
opening_calls pieces = Cut 0 ∷ Write 0 (0 ∷ []) ∷ Sync ∷ pieces

-- then these are synced, and the first byte is set, and synced
abbrev pub attach_calls : List ℕ → List MirrorCommand → List MirrorCommand
attach_calls bytes pieces = opening_calls pieces ++ Sync ∷ first_call (first_of bytes) ∷ Sync ∷ []
