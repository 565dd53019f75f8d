-- A session: the frames of a connection, each asked of a machine, each reply written. Own.
use Rattle.std.specs.Prelude.{if◌then◌else◌, true, false, ◌≡◌, ◌≢◌, ◌<◌, ◌≤◌, ◌⊎◌, ◌^◌, ℕ, Bool, List, [], ◌∷◌, ◌++◌, length, Option, Some, None}
use Rattle.actor_ports.specs.declared.port.PortError.{PortError}
use Rattle.actor_ports.specs.declared.port.PortError.TheVariants as ports
use Rattle.actor_ports.specs.declared.session.SessionEnd.{SessionEnd}
use Rattle.actor_ports.specs.declared.session.SessionEnd.TheVariants.{Done, Malformed, Broken, ConnFault, OutOfMemory, Spent}
use Rattle.actor_ports.specs.Traffic.{Traffic}
use Rattle.http_edge.specs.Carry.{AtEnd, IsFront}
use Rattle.frame_wire.specs.declared.error.FrameError.{FrameError}
use Rattle.frame_wire.specs.declared.frame.Frame.{Frame}
use Rattle.frame_wire.specs.Frames.{frame_bytes, IsFrame}
use Rattle.frame_wire.specs.Streams.{look, end_look}
use Rattle.frame_session.specs.Exchanges.{Exchange}
use Rattle.frame_session.specs.Rounds.{Round, GoOn, BreakOff, Went, answered}

-- the bytes begin with a fault, whatever follows
abbrev pub IsFaulty : List ℕ → Type 0
IsFaulty rest = (at : ℕ) × (e : FrameError) × (look at rest ≡ end_look (Some e))

-- the bytes are a beginning of a frame, or nothing
abbrev pub IsBeginning : List ℕ → Type 0
IsBeginning rest = (at : ℕ) × (look at rest ≡ end_look None)

-- the input ended inside a frame
abbrev pub IsCutShort : List ℕ → Option Traffic → Option Traffic → Type 0
IsCutShort rest t0 t1 = (rest ≢ []) × IsBeginning rest × AtEnd t0 t1

-- the bytes begin with this frame
abbrev pub BeginsWith : List ℕ → Frame → Type 0
BeginsWith rest frame = IsFrame frame × ((more : List ℕ) × (rest ≡ frame_bytes frame ++ more))

-- how a session ends if its input has ended with a beginning of a frame; memory may run out
abbrev pub InputEnd : List ℕ → ℕ → SessionEnd → Type 0
InputEnd rest n (Done m) = (m ≡ n) × (rest ≡ [])
InputEnd rest n (Malformed m) = (m ≡ n) × (rest ≢ [])
InputEnd rest n (OutOfMemory m) = m ≡ n
InputEnd rest n (Broken m) = ⊥
InputEnd rest n (ConnFault m) = ⊥
InputEnd rest n (Spent m count) = ⊥

-- how it ends if the connection or the memory fails
abbrev pub cut_end : PortError → ℕ → SessionEnd
cut_end ports.Failed n = ConnFault n
cut_end ports.OutOfMemory n = OutOfMemory n

-- how it ends if an answer isn't written whole; a reply that breaks it off does so in any case
abbrev pub cut_answer_end : PortError → Bool → ℕ → SessionEnd
cut_answer_end e broken n = if broken then Broken n else cut_end e n

-- the count of faults rises if the connection failed
abbrev pub SessionCause : ℕ → ℕ → SessionEnd → Type 0
SessionCause before after (ConnFault n) = before < after
SessionCause before after end = before ≤ after

module _ {E R : Type 0} (event_of : Frame → ℕ → Option E) (answer_of : R → Option Frame) (breaks : R → Bool) where
  -- the bytes begin with a frame that isn't sent to this machine
  abbrev pub IsForeign : List ℕ → ℕ → Type 0
  IsForeign rest now = (frame : Frame) × BeginsWith rest frame × (event_of frame now ≡ None)

  -- the bytes begin with a frame that is
  abbrev pub HasRequest : List ℕ → ℕ → Type 0
  HasRequest rest now = (frame : Frame) × BeginsWith rest frame × ((e : E) × (event_of frame now ≡ Some e))

  -- why the session ended in the answer of one more round, of which these bytes were written
  abbrev pub EndsCut : SessionEnd → List (Round E R) → Round E R → List ℕ → Type 0
  EndsCut (Broken n) rounds last front =
      (n ≡ length rounds) × GoOn event_of answer_of breaks rounds × (breaks last.exchange.reply ≡ true) × IsFront front (frame_bytes last.answer)
  EndsCut (ConnFault n) rounds last front =
      (n ≡ length rounds) × GoOn event_of answer_of breaks rounds × (breaks last.exchange.reply ≡ false) × IsFront front (frame_bytes last.answer)
  EndsCut (OutOfMemory n) rounds last front =
      (n ≡ length rounds) × GoOn event_of answer_of breaks rounds × (breaks last.exchange.reply ≡ false) × (front ≡ [])
  EndsCut (Done n) rounds last front = ⊥
  EndsCut (Malformed n) rounds last front = ⊥
  EndsCut (Spent n count) rounds last front = ⊥

-- What was made at a seat, and how many steps it knows, are parameters, as in `Turns`.
module _
    {E R Seat : Type 0} (made : List (Exchange E R) → Seat → Seat → Type 0) (known : Seat → ℕ)
    (event_of : Frame → ℕ → Option E) (answer_of : R → Option Frame) (breaks : R → Bool) where
  -- Why there was no further round. `rounds` are the frames whose answers were written whole, and `rest` are the bytes
  -- that were read behind them.
  abbrev pub EndsWith : SessionEnd → List (Round E R) → List ℕ → Seat → ℕ → Option Traffic → Option Traffic → Type 0
  EndsWith (Done n) rounds rest s1 m1 t0 t1 = (n ≡ length rounds) × GoOn event_of answer_of breaks rounds × (rest ≡ []) × AtEnd t0 t1
  EndsWith (Malformed n) rounds rest s1 m1 t0 t1 =
      (n ≡ length rounds) × GoOn event_of answer_of breaks rounds × (IsFaulty rest ⊎ (IsForeign event_of answer_of breaks rest m1 ⊎ IsCutShort rest t0 t1))
  EndsWith (Broken n) rounds rest s1 m1 t0 t1 = (n ≡ length rounds) × BreakOff event_of answer_of breaks rounds
  EndsWith (ConnFault n) rounds rest s1 m1 t0 t1 = (n ≡ length rounds) × GoOn event_of answer_of breaks rounds
  EndsWith (OutOfMemory n) rounds rest s1 m1 t0 t1 = (n ≡ length rounds) × GoOn event_of answer_of breaks rounds
  EndsWith (Spent n count) rounds rest s1 m1 t0 t1 =
      (n ≡ length rounds) × GoOn event_of answer_of breaks rounds × HasRequest event_of answer_of breaks rest m1 × (known s1 ≡ 2 ^ 62) × (count ≡ 2 ^ 62)

  -- a session that ended between two answers
  abbrev pub EndsBetween : Seat → Seat → ℕ → ℕ → Option Traffic → Option Traffic → SessionEnd → Type 0
  EndsBetween s0 s1 m0 m1 t0 t1 end =
      (rounds : List (Round E R)) × (rest : List ℕ)
      × Went made event_of answer_of breaks s0 s1 m0 m1 t0 t1 rounds rest (answered rounds)
      × EndsWith end rounds rest s1 m1 t0 t1

  -- a session that ended in the answer of one more round
  abbrev pub EndsInAnswer : Seat → Seat → ℕ → ℕ → Option Traffic → Option Traffic → SessionEnd → Type 0
  EndsInAnswer s0 s1 m0 m1 t0 t1 end =
      (rounds : List (Round E R)) × (last : Round E R) × (rest : List ℕ) × (front : List ℕ)
      × Went made event_of answer_of breaks s0 s1 m0 m1 t0 t1 (rounds ++ last ∷ []) rest (answered rounds ++ front)
      × EndsCut event_of answer_of breaks end rounds last front

  abbrev pub IsSession : Seat → Seat → ℕ → ℕ → Option Traffic → Option Traffic → SessionEnd → Type 0
  IsSession s0 s1 m0 m1 t0 t1 end = EndsBetween s0 s1 m0 m1 t0 t1 end ⊎ EndsInAnswer s0 s1 m0 m1 t0 t1 end
