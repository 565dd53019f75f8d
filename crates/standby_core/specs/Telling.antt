-- What goes over the link to a standby: calls, and their answers. Own.
use Rattle.std.specs.Prelude.{◌≡◌, ◌≢◌, ◌⊎◌, ℕ, suc, List, [], ◌∷◌, ◌++◌, map, Option, Result, Ok, Err}
use Rattle.actor_ports.specs.declared.port.PortError.{PortError}
use Rattle.actor_ports.specs.declared.port.PortError.TheVariants.{Failed, OutOfMemory}
use Rattle.actor_ports.specs.Traffic.{Traffic}
use Rattle.http_edge.specs.Carry.{Over, IsFront}
use Rattle.frame_wire.specs.declared.frame.Frame.{Frame}
use Rattle.frame_wire.specs.declared.frame.Frame.TheVariants.{Mirror, Mirrored}
use Rattle.frame_wire.specs.declared.mirror.MirrorCommand.{MirrorCommand}
use Rattle.frame_wire.specs.declared.mirror.MirrorAnswer.TheVariants.{Done}
use Rattle.frame_wire.specs.Frames.{frame_bytes}
use Rattle.frame_wire.specs.Streams.{frames_bytes}

-- the spelling of a call
abbrev pub call_bytes : MirrorCommand → List ℕ
call_bytes call = frame_bytes (Mirror call)

abbrev pub call_frame : MirrorCommand → Frame
call_frame call = Mirror call

-- the spellings of calls, in order
abbrev pub calls_bytes : List MirrorCommand → List ℕ
calls_bytes calls = frames_bytes (map call_frame calls)

-- the spelling of the answer that a call was done
abbrev pub done_bytes : List ℕ
done_bytes = frame_bytes (Mirrored Done)

abbrev pub done_frame : MirrorCommand → Frame
done_frame call = Mirrored Done

-- that of the answers to calls that were all done
abbrev pub dones_bytes : List MirrorCommand → List ℕ
dones_bytes calls = frames_bytes (map done_frame calls)

-- each of the calls was sent, and answered as done
abbrev pub AreDone : List MirrorCommand → Option Traffic → Option Traffic → Type 0
AreDone calls t0 t1 = Over t0 t1 (record { read = dones_bytes calls; written = calls_bytes calls })

-- these were, and then the last was sent, in whole or in part, and what was read for it is no such answer
abbrev pub IsLost : List MirrorCommand → MirrorCommand → Option Traffic → Option Traffic → Type 0
IsLost calls last t0 t1 =
    (front : List ℕ) × (got : List ℕ) × IsFront front (call_bytes last) × (got ≢ done_bytes)
    × Over t0 t1 (record { read = dones_bytes calls ++ got; written = calls_bytes calls ++ front })

-- Calls were sent over some link of this type, and the last of them was lost. `traffic` is what went over a link; where
-- nothing else is known of links, only a call of a mirror that wasn't answered as done knows this.
abbrev pub WasLost : {L : Type 0} → (L → Option Traffic) → Type 0
WasLost {L} traffic = (before : L) × (after : L) × (calls : List MirrorCommand) × (last : MirrorCommand) × IsLost calls last (traffic before) (traffic after)

-- a number of answers that weren't read as done is above 0 only if one was lost
abbrev pub HasLost : {L : Type 0} → (L → Option Traffic) → ℕ → Type 0
HasLost traffic unheard = (unheard ≡ 0) ⊎ WasLost traffic

-- the number of answers that couldn't be read, or told a fault, after one more call was lost: if the link failed, that
-- is counted there
abbrev pub MayRise : ℕ → ℕ → Type 0
MayRise before after = (after ≡ before) ⊎ (after ≡ suc before)

-- one call was sent and answered; OutOfMemory isn't answered
abbrev pub Asks : MirrorCommand → Option Traffic → Option Traffic → ℕ → ℕ → Result (Unit {0}) PortError → Type 0
Asks call t0 t1 u0 u1 (Ok x) = AreDone (call ∷ []) t0 t1 × (u1 ≡ u0)
Asks call t0 t1 u0 u1 (Err Failed) = IsLost [] call t0 t1 × MayRise u0 u1
Asks call t0 t1 u0 u1 (Err OutOfMemory) = ⊥

-- The calls of a write, of which `Whole` says that they are all of it and `Front` that they are its first: all were sent
-- and answered, or one was lost and none was sent behind it.
abbrev pub AsksAll : (List MirrorCommand → Type 0) → (List MirrorCommand → Type 0) → Option Traffic → Option Traffic → ℕ → ℕ → Result (Unit {0}) PortError → Type 0
AsksAll Whole Front t0 t1 u0 u1 (Ok x) = (calls : List MirrorCommand) × Whole calls × AreDone calls t0 t1 × (u1 ≡ u0)
AsksAll Whole Front t0 t1 u0 u1 (Err Failed) = (calls : List MirrorCommand) × (last : MirrorCommand) × Front (calls ++ last ∷ []) × IsLost calls last t0 t1 × MayRise u0 u1
AsksAll Whole Front t0 t1 u0 u1 (Err OutOfMemory) = ⊥
