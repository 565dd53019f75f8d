-- One frame written and one frame read: what went over the connection, and what the answer says of it. Own.
use Rattle.std.specs.Prelude.{◌≡◌, ◌<◌, ◌≤◌, ◌⊎◌, ℕ, List, [], ◌++◌, length, Option, Some, None, Result, Ok, Err}
use Rattle.actor_ports.specs.declared.port.PortError.{PortError}
use Rattle.actor_ports.specs.declared.port.PortError.TheVariants as ports
use Rattle.actor_ports.specs.Traffic.{Traffic}
use Rattle.http_edge.specs.Carry.{Carried, IsFront, AtEnd}
use Rattle.frame_wire.specs.declared.error.FrameError.{FrameError}
use Rattle.frame_wire.specs.declared.error.FrameError.TheVariants as faults
use Rattle.frame_wire.specs.declared.frame.Frame.{Frame}
use Rattle.frame_wire.specs.Frames.{frame_bytes, IsFrame}
use Rattle.frame_wire.specs.Streams.{look, end_look}
use Rattle.exchanges.specs.declared.frame_end.FrameEnd.{FrameEnd}
use Rattle.exchanges.specs.declared.frame_end.FrameEnd.TheVariants.{NoFrame, ConnFault, OutOfMemory}
use Rattle.exchanges.specs.declared.front.Front.{Front}
use Rattle.exchanges.specs.declared.front.Front.TheVariants.{More, Whole, Faulty}

-- ---- what bytes begin with

-- the place of a fault; a frame that is too long is one from its first byte on
abbrev pub fault_place : FrameError → ℕ
fault_place (faults.BadKind at kind) = at
fault_place (faults.BadField at) = at
fault_place (faults.TooLong n) = 0
fault_place faults.OutOfMemory = 0

-- the bytes have a fault at this place, whatever follows
abbrev pub HasFault : List ℕ → ℕ → Type 0
HasFault bytes at = (e : FrameError) × (look 0 bytes ≡ end_look (Some e)) × (at ≡ fault_place e)

-- a frame and what follows it, or a fault, or neither yet
abbrev pub BeginsWith : List ℕ → Front → Type 0
BeginsWith bytes More = look 0 bytes ≡ end_look None
BeginsWith bytes (Whole f) = IsFrame f × ((more : List ℕ) × (bytes ≡ frame_bytes f ++ more))
BeginsWith bytes (Faulty at) = HasFault bytes at

-- what bytes begin with if no frame does
abbrev pub front_of : Option FrameError → Front
front_of None = More
front_of (Some e) = Faulty (fault_place e)

-- ---- one exchange

-- the bytes have a fault at this place; or they are the beginning of a frame, and the input ended behind them
abbrev pub IsNoFrame : List ℕ → Option Traffic → Option Traffic → ℕ → Type 0
IsNoFrame bytes before after at = HasFault bytes at ⊎ ((look 0 bytes ≡ end_look None) × (at ≡ length bytes) × AtEnd before after)

-- what these bytes, which were read, give; after a fault of the connection or OutOfMemory they may be any
abbrev pub ReadsFrame : List ℕ → Option Traffic → Option Traffic → Result Frame FrameEnd → Type 0
ReadsFrame bytes before after (Ok f) = IsFrame f × (bytes ≡ frame_bytes f)
ReadsFrame bytes before after (Err (NoFrame at)) = IsNoFrame bytes before after at
ReadsFrame bytes before after (Err ConnFault) = Unit {0}
ReadsFrame bytes before after (Err OutOfMemory) = Unit {0}

-- a prefix of the text was written, and nothing was read before all of it was written
abbrev pub IsCut : List ℕ → Carried → Type 0
IsCut text c = IsFront c.written text × ((c.written ≡ text) ⊎ (c.read ≡ []))

-- The text was written, and the bytes read are the spelling of the frame answered, or no frame. A fault of the
-- connection or OutOfMemory may have cut both short.
abbrev pub ExchangesFrame : List ℕ → Carried → Option Traffic → Option Traffic → Result Frame FrameEnd → Type 0
ExchangesFrame text c before after (Ok f) = (c.written ≡ text) × ReadsFrame c.read before after (Ok f)
ExchangesFrame text c before after (Err (NoFrame at)) = (c.written ≡ text) × IsNoFrame c.read before after at
ExchangesFrame text c before after (Err ConnFault) = IsCut text c
ExchangesFrame text c before after (Err OutOfMemory) = IsCut text c

-- the answer to an error of the connection
abbrev pub end_of : PortError → FrameEnd
end_of ports.Failed = ConnFault
end_of ports.OutOfMemory = OutOfMemory

-- the count of faults rises if the connection failed
abbrev pub EndCause : {A : Type 0} → ℕ → ℕ → Result A FrameEnd → Type 0
EndCause before after (Err ConnFault) = before < after
EndCause before after result = before ≤ after
