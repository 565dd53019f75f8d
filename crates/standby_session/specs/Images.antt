-- A standby's file is one that a crash of the placement's own disk might have left. Own.
use Rattle.std.specs.Prelude.{◌≡◌, ◌⊎◌, ℕ, List, [], ◌∷◌, ◌++◌}
use Rattle.disk_model.specs.Disk.{DiskState, MayLeave}
use Rattle.disk_model.specs.Crash.{ReadsAnImage}
use Rattle.frame_wire.specs.declared.mirror.MirrorCommand.{MirrorCommand}
use Rattle.frame_wire.specs.declared.mirror.MirrorCommand.TheVariants.{Write, Cut, Sync}
use Rattle.standby_core.specs.Replicas.{IsWithin, AreWithin, disk_after, disk_after_all}
use Rattle.standby_core.specs.Mirrors.{IsWrite, BeginsWrite}
use Rattle.standby_core.specs.Attaching.{IsAttach}

-- the calls that a mirror sends for one call of its disk: a write's are its pieces
abbrev pub AreSentFor : MirrorCommand → List MirrorCommand → Type 0
AreSentFor (Write at new) sent = IsWrite at new sent
AreSentFor (Cut len) sent = sent ≡ Cut len ∷ []
AreSentFor Sync sent = sent ≡ Sync ∷ []

-- the first of them
abbrev pub BeginFor : MirrorCommand → List MirrorCommand → Type 0
BeginFor (Write at new) sent = BeginsWrite at new sent
BeginFor (Cut len) sent = (sent ≡ []) ⊎ (sent ≡ Cut len ∷ [])
BeginFor Sync sent = (sent ≡ []) ⊎ (sent ≡ Sync ∷ [])

-- those of several calls, in order
abbrev pub AllSentFor : List MirrorCommand → List MirrorCommand → Type 0
AllSentFor [] sent = sent ≡ []
AllSentFor (call ∷ calls) sent = (one : List MirrorCommand) × (more : List MirrorCommand) × (sent ≡ one ++ more) × AreSentFor call one × AllSentFor calls more

-- The second disk reads the same as the first, and whatever a crash may leave of it a crash might have left of the first.
pub record Covers (first second : DiskState) : Type 0 where
  pub reads : second.bytes ≡ first.bytes
  pub image : ReadsAnImage first
  pub leaves : (left : List ℕ) → MayLeave second.instant left → MayLeave first.instant left

-- so it is behind an attach, whatever the standby's disk held
abbrev pub AttachCovers : Type 0
AttachCovers = (first second : DiskState) (calls : List MirrorCommand) → ReadsAnImage first → IsAttach first.bytes calls → Covers first (disk_after_all second calls)

-- behind calls that were all answered
abbrev pub AnsweredCovers : Type 0
AnsweredCovers =
    (first second : DiskState) (calls sent : List MirrorCommand)
    → Covers first second → AreWithin first.bytes calls → AllSentFor calls sent → Covers (disk_after_all first calls) (disk_after_all second sent)

-- a crash before the call, or behind it, might have left these bytes of the first disk
abbrev pub MightLeave : DiskState → MirrorCommand → List ℕ → Type 0
MightLeave first call left = MayLeave first.instant left ⊎ MayLeave (disk_after first call).instant left

-- and while a call is under way, of which the first disk has done all and the standby perhaps some: so what a crash may
-- leave of the standby's disk, and what a read gives
abbrev pub UnderWayCovers : Type 0
UnderWayCovers =
    (first second : DiskState) (call : MirrorCommand) (sent : List MirrorCommand)
    → Covers first second → IsWithin first.bytes call → BeginFor call sent
    → ((left : List ℕ) → MayLeave (disk_after_all second sent).instant left → MightLeave first call left)
    × MightLeave first call (disk_after_all second sent).bytes
