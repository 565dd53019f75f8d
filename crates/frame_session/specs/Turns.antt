-- What the parts of a session do: one frame, and one piece of the stream. Own.
use Rattle.std.specs.Prelude.{◌≡◌, ◌<◌, ◌≤◌, ◌^◌, ℕ, Bool, List, [], ◌∷◌, Option, Some, None, Result, Ok, Err}
use Rattle.actor_ports.specs.declared.port.PortError.{PortError}
use Rattle.actor_ports.specs.declared.port.PortError.TheVariants as ports
use Rattle.actor_ports.specs.Traffic.{Traffic}
use Rattle.http_edge.specs.Carry.{Over, AtEnd, IsFront, nothing}
use Rattle.frame_wire.specs.declared.error.FrameError.{FrameError}
use Rattle.frame_wire.specs.declared.frame.Frame.{Frame}
use Rattle.frame_wire.specs.Frames.{frame_bytes}
use Rattle.frame_wire.specs.Streams.{ReaderState, Takes}
use Rattle.frame_session.specs.declared.turn.Turn.{Turn}
use Rattle.frame_session.specs.declared.turn.Turn.TheVariants.{Answered, Cut, Foreign, Spent}
use Rattle.frame_session.specs.declared.fetch.Fetched.{Fetched}
use Rattle.frame_session.specs.declared.fetch.Fetched.TheVariants.{Fed, Faulty, Ended}
use Rattle.frame_session.specs.Exchanges.{Exchange}
use Rattle.frame_session.specs.Rounds.{Round, IsRound}

-- ---- an answer

-- all of it was written; after Failed a prefix of it, and after OutOfMemory none
abbrev pub IsCutAt : PortError → List ℕ → List ℕ → Type 0
IsCutAt ports.Failed front bytes = IsFront front bytes
IsCutAt ports.OutOfMemory front bytes = front ≡ []

abbrev pub Replies : Option Traffic → Option Traffic → List ℕ → Result (Unit {0}) PortError → Type 0
Replies t0 t1 bytes (Ok u) = Over t0 t1 (record { read = []; written = bytes })
Replies t0 t1 bytes (Err e) = (front : List ℕ) × IsCutAt e front bytes × Over t0 t1 (record { read = []; written = front })

-- ---- a frame

-- What was made at a seat, and how many steps it knows, are parameters.
module _
    {E R Seat : Type 0} (made : List (Exchange E R) → Seat → Seat → Type 0) (known : Seat → ℕ)
    (event_of : Frame → ℕ → Option E) (answer_of : R → Option Frame) (breaks : R → Bool) where
  -- the frame was asked, at the moment that the clock shows now
  pub record Steps
      (frame : Frame) (s0 s1 : Seat) (m0 m1 : ℕ) (t0 t1 : Option Traffic)
      (r : Round E R) (written : List ℕ) : Type 0 where
    pub round : IsRound event_of answer_of breaks r
    pub is : r.frame ≡ frame
    pub asked_there : made (r.exchange ∷ []) s0 s1
    pub longer : known s0 < known s1
    pub small : known s1 ≤ 2 ^ 62
    pub now : r.now ≡ m1
    pub later : m0 ≤ m1
    pub over : Over t0 t1 (record { read = []; written = written })

  -- what came of a frame
  abbrev pub Turns : Frame → Seat → Seat → ℕ → ℕ → Option Traffic → Option Traffic → Turn → Type 0
  Turns frame s0 s1 m0 m1 t0 t1 (Answered broken) =
      (r : Round E R) × Steps frame s0 s1 m0 m1 t0 t1 r (frame_bytes r.answer) × (broken ≡ breaks r.exchange.reply)
  Turns frame s0 s1 m0 m1 t0 t1 (Cut e broken) =
      (r : Round E R) × (front : List ℕ) × Steps frame s0 s1 m0 m1 t0 t1 r front × IsCutAt e front (frame_bytes r.answer) × (broken ≡ breaks r.exchange.reply)
  Turns frame s0 s1 m0 m1 t0 t1 Foreign = (event_of frame m1 ≡ None) × (s1 ≡ s0) × (m0 ≤ m1) × (t1 ≡ t0)
  Turns frame s0 s1 m0 m1 t0 t1 (Spent count) =
      (e : E) × (event_of frame m1 ≡ Some e) × made [] s0 s1 × (known s1 ≡ 2 ^ 62) × (count ≡ 2 ^ 62) × (m0 ≤ m1) × (t1 ≡ t0)

-- the count of faults rises if a cut comes of the connection
abbrev pub TurnCause : ℕ → ℕ → Turn → Type 0
TurnCause before after (Cut ports.Failed broken) = before < after
TurnCause before after turn = before ≤ after

-- ---- a piece of the stream

-- these bytes were read
abbrev pub Got : Option Traffic → Option Traffic → List ℕ → Type 0
Got t0 t1 bytes = Over t0 t1 (record { read = bytes; written = [] })

-- The next piece was read and fed to the reader, with or without a fault of the stream; or the input has ended; or
-- bytes were lost, and the reader is as it was.
abbrev pub Fetches : ReaderState → ReaderState → Option Traffic → Option Traffic → Result Fetched PortError → Type 0
Fetches old new t0 t1 (Ok Fed) = (got : List ℕ) × Got t0 t1 got × Takes old got new None
Fetches old new t0 t1 (Ok Faulty) = (got : List ℕ) × (e : FrameError) × Got t0 t1 got × Takes old got new (Some e)
Fetches old new t0 t1 (Ok Ended) = Over t0 t1 nothing × AtEnd t0 t1 × (new ≡ old)
Fetches old new t0 t1 (Err e) = (got : List ℕ) × Got t0 t1 got × (new ≡ old)
