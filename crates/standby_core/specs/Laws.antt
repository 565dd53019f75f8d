-- What calls make of a disk. Own.
use Rattle.std.specs.Prelude.{◌≡◌, ◌≤◌, ℕ, List, [], ◌∷◌, ◌++◌, length}
use Rattle.disk_model.specs.Disk.{DiskState, overwritten, MayLeave}
use Rattle.frame_wire.specs.declared.mirror.MirrorCommand.{MirrorCommand}
use Rattle.frame_wire.specs.declared.mirror.MirrorCommand.TheVariants.{Sync}
use Rattle.standby_core.specs.Replicas.{replica_after, disk_after_all, AreWithin}
use Rattle.standby_core.specs.Mirrors.{IsWrite}
use Rattle.standby_core.specs.Attaching.{IsAttach}

-- the calls of an attach are never past the end, and make any disk read as these bytes
abbrev pub AttachCopies : Type 0
AttachCopies = (bytes old : List ℕ) (calls : List MirrorCommand) → IsAttach bytes calls → AreWithin old calls × (replica_after old calls ≡ bytes)

-- behind a sync a crash leaves what all calls before it make
abbrev pub SyncKeeps : Type 0
SyncKeeps = (d : DiskState) (calls : List MirrorCommand) (image : List ℕ) → MayLeave (disk_after_all d (calls ++ Sync ∷ [])).instant image → image ≡ replica_after d.bytes calls

-- a disk to which these calls were made reads as the replica
abbrev pub ReadsAsReplica : Type 0
ReadsAsReplica = (d : DiskState) (calls : List MirrorCommand) → (disk_after_all d calls).bytes ≡ replica_after d.bytes calls

-- the pieces of a write make the same as the write
abbrev pub PiecesAreOne : Type 0
PiecesAreOne = (old new : List ℕ) (at : ℕ) (calls : List MirrorCommand) → at ≤ length old → IsWrite at new calls → AreWithin old calls × (replica_after old calls ≡ overwritten old at new)
