-- What comes of one frame of a session. Own.
use Rattle.std.specs.Prelude.{◌≡◌, ◌⊎◌, ◌<◌, ◌≤◌, ℕ, ◌+◌, Bool, true, false, List, [], Option, Some, None, Ok, Err}
use Rattle.actor_ports.specs.declared.port.PortError.TheVariants as ports
use Rattle.actor_ports.specs.declared.session.SessionEnd.{SessionEnd}
use Rattle.actor_ports.specs.declared.session.SessionEnd.TheVariants.{Malformed, Broken}
use Rattle.actor_ports.specs.Traffic.{Traffic}
use Rattle.http_edge.specs.Carry.{Over, IsFront}
use Rattle.disk_model.specs.Disk.{DiskState, Tells}
use Rattle.frame_wire.specs.declared.frame.Frame.{Frame}
use Rattle.frame_wire.specs.declared.frame.Frame.TheVariants.{Mirror}
use Rattle.frame_wire.specs.declared.mirror.MirrorCommand.{MirrorCommand}
use Rattle.frame_session.specs.Sessions.{cut_end}
use Rattle.frame_session.specs.Turns.{Replies}
use Rattle.standby_session.specs.declared.taken.Taken.{Taken}
use Rattle.standby_session.specs.declared.taken.Taken.TheVariants.{Done, Cut, Fault, Foreign}
use Rattle.standby_core.specs.Telling.{done_bytes}
use Rattle.standby_session.specs.Sessions.{fault_bytes, MakesCall}

-- the answer that a call failed was written whole, or a prefix of it
abbrev pub IsToldAs : Bool → List ℕ → Type 0
IsToldAs true front = front ≡ fault_bytes
IsToldAs false front = IsFront front fault_bytes

-- so many bytes of that answer were written
abbrev pub TellsFault : Bool → Option Traffic → Option Traffic → Type 0
TellsFault told t0 t1 = (front : List ℕ) × IsToldAs told front × Over t0 t1 (record { read = []; written = front })

-- what came of a call
abbrev pub Takes : MirrorCommand → Option DiskState → Option DiskState → Option Traffic → Option Traffic → Taken → Type 0
Takes call d0 d1 t0 t1 Done = Tells (MakesCall call (Ok true)) d0 d1 × Replies t0 t1 done_bytes (Ok tt)
Takes call d0 d1 t0 t1 (Cut e) =
    (Tells (MakesCall call (Ok true)) d0 d1 × Replies t0 t1 done_bytes (Err e))
    ⊎ (Tells (MakesCall call (Err ports.OutOfMemory)) d0 d1 × (e ≡ ports.OutOfMemory) × (t1 ≡ t0))
Takes call d0 d1 t0 t1 (Fault told) = Tells (MakesCall call (Err ports.Failed)) d0 d1 × TellsFault told t0 t1
Takes call d0 d1 t0 t1 Foreign = Tells (MakesCall call (Ok false)) d0 d1 × (t1 ≡ t0)

-- what came of a frame: one that is no call changes nothing
abbrev pub TakesFrame : Frame → Option DiskState → Option DiskState → Option Traffic → Option Traffic → Taken → Type 0
TakesFrame (Mirror call) d0 d1 t0 t1 taken = Takes call d0 d1 t0 t1 taken
TakesFrame frame d0 d1 t0 t1 taken = (taken ≡ Foreign) × (d1 ≡ d0) × (t1 ≡ t0)

-- the link's count rises if an answer was cut by it, and the disk's if a call failed
abbrev pub TakesCause : ℕ → ℕ → Taken → Type 0
TakesCause before after (Cut ports.Failed) = before < after
TakesCause before after taken = before ≤ after

abbrev pub FaultCause : ℕ → ℕ → Taken → Type 0
FaultCause before after (Fault told) = before < after
FaultCause before after taken = before ≤ after

-- how a session ends behind it, if it does, when n calls were answered before
abbrev pub taken_end : Taken → ℕ → Option SessionEnd
taken_end Done n = None
taken_end (Cut e) n = Some (cut_end e n)
taken_end (Fault true) n = Some (Broken (n + 1))
taken_end (Fault false) n = Some (Broken n)
taken_end Foreign n = Some (Malformed n)
