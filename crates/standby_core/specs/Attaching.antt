-- How a standby's disk gets the bytes of another. Own.
use Rattle.std.specs.Prelude.{◌≡◌, ◌⊎◌, ◌<◌, ℕ, List, [], drop, Option, Some, None, Result, Ok, Err}
use Rattle.actor_ports.specs.declared.port.PortError.{PortError}
use Rattle.actor_ports.specs.declared.port.PortError.TheVariants.{Failed, OutOfMemory}
use Rattle.actor_ports.specs.Traffic.{Traffic}
use Rattle.disk_model.specs.Disk.{DiskState}
use Rattle.frame_wire.specs.declared.mirror.MirrorCommand.{MirrorCommand}
use Rattle.standby_core.specs.Replicas.{attach_calls, first_of}
use Rattle.standby_core.specs.Telling.{AreDone, IsLost}
use Rattle.standby_core.specs.Mirrors.{IsWrite}

-- the bytes that a disk reads as, if it reports its state
abbrev pub ReadsAs : Option DiskState → List ℕ → Type 0
ReadsAs None bytes = Unit {0}
ReadsAs (Some d) bytes = bytes ≡ d.bytes

-- the calls by which a standby gets these bytes
abbrev pub IsAttach : List ℕ → List MirrorCommand → Type 0
IsAttach bytes calls = (pieces : List MirrorCommand) × IsWrite 1 (drop 1 bytes) pieces × (calls ≡ attach_calls bytes pieces)

-- all of them were done, for the bytes of the disk
abbrev pub Attaches : Option DiskState → Option Traffic → Option Traffic → Type 0
Attaches told t0 t1 = (bytes : List ℕ) × (calls : List MirrorCommand) × ReadsAs told bytes × IsAttach bytes calls × AreDone calls t0 t1

-- some call was lost: what was read for it isn't the answer that it was done
abbrev pub SomeLost : Option Traffic → Option Traffic → Type 0
SomeLost t0 t1 = (calls : List MirrorCommand) × (last : MirrorCommand) × IsLost calls last t0 t1

-- why a standby wasn't attached: the disk's count rose, or the link's, or an answer was no MirrorDone
abbrev pub AttachCause : ℕ → ℕ → ℕ → ℕ → Option Traffic → Option Traffic → PortError → Type 0
AttachCause d0 d1 l0 l1 t0 t1 Failed = (d0 < d1) ⊎ ((l0 < l1) ⊎ SomeLost t0 t1)
AttachCause d0 d1 l0 l1 t0 t1 OutOfMemory = Unit {0}

-- ---- the two parts of it that read the disk

-- a disk that reports its state has these bytes behind its first, and this first byte, or none
abbrev pub ReadsRest : Option DiskState → List ℕ → Type 0
ReadsRest None rest = Unit {0}
ReadsRest (Some d) rest = rest ≡ drop 1 d.bytes

abbrev pub ReadsFirst : Option DiskState → Option ℕ → Type 0
ReadsFirst None first = Unit {0}
ReadsFirst (Some d) first = first ≡ first_of d.bytes

-- the bytes from the second on were sent in pieces, and answered; without a first there are none
abbrev pub SendsRest : Option DiskState → Option Traffic → Option Traffic → Result (Unit {0}) PortError → Type 0
SendsRest told t0 t1 (Ok x) = (rest : List ℕ) × (calls : List MirrorCommand) × ReadsRest told rest × IsWrite 1 rest calls × AreDone calls t0 t1
SendsRest told t0 t1 (Err e) = Unit {0}

abbrev pub SendsBehind : Option ℕ → Option DiskState → Option Traffic → Option Traffic → Result (Unit {0}) PortError → Type 0
SendsBehind first told t0 t1 (Ok x) = (rest : List ℕ) × (calls : List MirrorCommand) × ReadsRest told rest × (first ≡ None → rest ≡ []) × IsWrite 1 rest calls × AreDone calls t0 t1
SendsBehind first told t0 t1 (Err e) = Unit {0}
