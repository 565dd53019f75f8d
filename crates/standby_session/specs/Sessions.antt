-- A session of a standby: the calls that were read, made on its disk in order, and answered. Own.
use Rattle.std.specs.Prelude.{◌≡◌, ◌⊎◌, ◌<◌, ◌≤◌, ℕ, suc, Bool, true, false, List, [], ◌∷◌, ◌++◌, length, Option, Some, Result, Ok, Err}
use Rattle.actor_ports.specs.declared.port.PortError.{PortError}
use Rattle.actor_ports.specs.declared.port.PortError.TheVariants as ports
use Rattle.actor_ports.specs.declared.session.SessionEnd.{SessionEnd}
use Rattle.actor_ports.specs.declared.session.SessionEnd.TheVariants.{Done, Malformed, Broken, ConnFault, OutOfMemory, Spent}
use Rattle.actor_ports.specs.Traffic.{Traffic}
use Rattle.http_edge.specs.Carry.{Over, AtEnd, IsFront}
use Rattle.disk_model.specs.Disk.{DiskState, Writes, Cuts, Syncs, Tells}
use Rattle.frame_wire.specs.declared.frame.Frame.{Frame}
use Rattle.frame_wire.specs.declared.frame.Frame.TheVariants.{Mirror, Mirrored}
use Rattle.frame_wire.specs.declared.mirror.MirrorCommand.{MirrorCommand}
use Rattle.frame_wire.specs.declared.mirror.MirrorCommand.TheVariants.{Write, Cut, Sync}
use Rattle.frame_wire.specs.declared.mirror.MirrorAnswer.TheVariants as answers
use Rattle.frame_wire.specs.Frames.{frame_bytes, IsFrame}
use Rattle.frame_session.specs.Sessions.{IsFaulty, IsCutShort, BeginsWith}
use Rattle.standby_core.specs.Replicas.{IsWithin, AreWithin, disk_after, disk_after_all}
use Rattle.standby_core.specs.Telling.{calls_bytes, done_bytes, dones_bytes}

-- the spelling of the answer that a call failed
abbrev pub fault_bytes : List ℕ
fault_bytes = frame_bytes (Mirrored answers.Fault)

-- ---- one call on the disk

-- what a call leaves that failed, or for which there was no memory
abbrev pub FailsCall : MirrorCommand → PortError → DiskState → DiskState → Type 0
FailsCall (Write at new) e d f = Writes {T = Unit {0}} at new (Err e) d f
FailsCall (Cut len) e d f = Cuts {T = Unit {0}} len (Err e) d f
FailsCall Sync e d f = Syncs {T = Unit {0}} (Err e) d f

-- The call was made, if it isn't past the end. One past the end changes nothing.
abbrev pub MakesCall : MirrorCommand → Result Bool PortError → DiskState → DiskState → Type 0
MakesCall call (Ok true) d e = IsWithin d.bytes call × (e ≡ disk_after d call)
MakesCall call (Ok false) d e = (IsWithin d.bytes call → ⊥) × (e ≡ d)
MakesCall call (Err x) d e = FailsCall call x d e

-- ---- a session

-- these calls were made, in order, none of them past the end
abbrev pub MakesAll : List MirrorCommand → DiskState → DiskState → Type 0
MakesAll calls d e = AreWithin d.bytes calls × (e ≡ disk_after_all d calls)

-- these were, and the last one failed so
abbrev pub MakesBut : List MirrorCommand → MirrorCommand → PortError → DiskState → DiskState → Type 0
MakesBut calls last x d e = AreWithin d.bytes calls × FailsCall last x (disk_after_all d calls) e

abbrev pub AreFrames : List MirrorCommand → Type 0
AreFrames [] = Unit {0}
AreFrames (call ∷ calls) = IsFrame (Mirror call) × AreFrames calls

-- a frame that is no call
abbrev pub is_call : Frame → Bool
is_call (Mirror call) = true
is_call frame = false

abbrev pub IsForeign : List ℕ → Type 0
IsForeign rest = (frame : Frame) × BeginsWith rest frame × (is_call frame ≡ false)

-- a call past the end of the disk, if that reports its state
abbrev pub IsPastEnd : List ℕ → Option DiskState → Type 0
IsPastEnd rest told = (call : MirrorCommand) × BeginsWith rest (Mirror call) × ((d : DiskState) → told ≡ Some d → IsWithin d.bytes call → ⊥)

-- Why no further call was made. `rest` was read behind the calls.
abbrev pub EndsBetween : SessionEnd → List MirrorCommand → List ℕ → Option DiskState → Option Traffic → Option Traffic → Type 0
EndsBetween (Done n) calls rest told t0 t1 = (n ≡ length calls) × (rest ≡ []) × AtEnd t0 t1
EndsBetween (Malformed n) calls rest told t0 t1 = (n ≡ length calls) × (IsFaulty rest ⊎ (IsForeign rest ⊎ (IsPastEnd rest told ⊎ IsCutShort rest t0 t1)))
EndsBetween (Broken n) calls rest told t0 t1 = ⊥
EndsBetween (ConnFault n) calls rest told t0 t1 = n ≡ length calls
EndsBetween (OutOfMemory n) calls rest told t0 t1 = n ≡ length calls
EndsBetween (Spent n count) calls rest told t0 t1 = (n ≡ length calls) × (n ≡ 18446744073709551615) × (count ≡ n)

-- Why the session ended at one more call, of whose answer these bytes were written: the call failed, and the answer says
-- so; or the answer that it was done couldn't be written whole.
abbrev pub EndsAt : SessionEnd → List MirrorCommand → MirrorCommand → List ℕ → Option DiskState → Option DiskState → Type 0
EndsAt (Broken n) calls last front d0 d1 = Tells (MakesBut calls last ports.Failed) d0 d1 × (((n ≡ suc (length calls)) × (front ≡ fault_bytes)) ⊎ ((n ≡ length calls) × IsFront front fault_bytes))
EndsAt (ConnFault n) calls last front d0 d1 = Tells (MakesAll (calls ++ last ∷ [])) d0 d1 × (n ≡ length calls) × IsFront front done_bytes
EndsAt (OutOfMemory n) calls last front d0 d1 = (Tells (MakesAll (calls ++ last ∷ [])) d0 d1 ⊎ Tells (MakesBut calls last ports.OutOfMemory) d0 d1) × (n ≡ length calls) × (front ≡ [])
EndsAt (Done n) calls last front d0 d1 = ⊥
EndsAt (Malformed n) calls last front d0 d1 = ⊥
EndsAt (Spent n count) calls last front d0 d1 = ⊥

-- a session that ended between two calls, each of which was made and answered as done
abbrev pub EndsBehind : Option DiskState → Option DiskState → Option Traffic → Option Traffic → SessionEnd → Type 0
EndsBehind d0 d1 t0 t1 end =
    (calls : List MirrorCommand) × (rest : List ℕ) × AreFrames calls
    × Over t0 t1 (record { read = calls_bytes calls ++ rest; written = dones_bytes calls })
    × Tells (MakesAll calls) d0 d1 × EndsBetween end calls rest d1 t0 t1

-- a session that ended at one more call
abbrev pub EndsWithin : Option DiskState → Option DiskState → Option Traffic → Option Traffic → SessionEnd → Type 0
EndsWithin d0 d1 t0 t1 end =
    (calls : List MirrorCommand) × (last : MirrorCommand) × (rest : List ℕ) × (front : List ℕ) × AreFrames (calls ++ last ∷ [])
    × Over t0 t1 (record { read = calls_bytes (calls ++ last ∷ []) ++ rest; written = dones_bytes calls ++ front })
    × EndsAt end calls last front d0 d1

abbrev pub IsStandby : Option DiskState → Option DiskState → Option Traffic → Option Traffic → SessionEnd → Type 0
IsStandby d0 d1 t0 t1 end = EndsBehind d0 d1 t0 t1 end ⊎ EndsWithin d0 d1 t0 t1 end

-- what came of a frame is in the code's own words: the disk's count rose if a call failed
abbrev pub BrokenCause : ℕ → ℕ → SessionEnd → Type 0
BrokenCause before after (Broken n) = before < after
BrokenCause before after end = before ≤ after
