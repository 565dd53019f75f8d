-- Frames that a machine was given, and what came of each. Own.
use Rattle.std.specs.Prelude.{◌≡◌, ◌≤◌, ℕ, Bool, true, false, List, [], ◌∷◌, ◌++◌, Option, Some, map}
use Rattle.actor_ports.specs.Traffic.{Traffic}
use Rattle.http_edge.specs.Carry.{Over}
use Rattle.frame_wire.specs.declared.frame.Frame.{Frame}
use Rattle.frame_wire.specs.Frames.{IsFrame}
use Rattle.frame_wire.specs.Streams.{frames_bytes}
use Rattle.frame_session.specs.Exchanges.{Exchange}

-- a frame, the moment at which the machine was given it, its event with the reply, and the frame of the reply
pub record Round (E R : Type 0) : Type 0 where
  pub frame : Frame
  pub now : ℕ
  pub exchange : Exchange E R
  pub answer : Frame

module _ {E R : Type 0} where
  -- the frames, the exchanges and the answers of rounds, in order
  abbrev pub frame_in : Round E R → Frame
  frame_in r = r.frame

  abbrev pub exchange_in : Round E R → Exchange E R
  exchange_in r = r.exchange

  abbrev pub answer_in : Round E R → Frame
  answer_in r = r.answer

  -- the bytes of the frames, and those of the answers
  abbrev pub asked : List (Round E R) → List ℕ
  asked rounds = frames_bytes (map frame_in rounds)

  abbrev pub answered : List (Round E R) → List ℕ
  answered rounds = frames_bytes (map answer_in rounds)

  -- the moments of the rounds don't fall, and lie between these two
  abbrev pub Moments : ℕ → List (Round E R) → ℕ → Type 0
  Moments from [] to = from ≤ to
  Moments from (r ∷ rounds) to = (from ≤ r.now) × Moments r.now rounds to

-- the machine may reply so to the event of some frame
abbrev pub IsReply : {E R : Type 0} → (E → R → Type 0) → (Frame → ℕ → Option E) → R → Type 0
IsReply {E} may_reply event_of reply =
    (f : Frame) × (now : ℕ) × (e : E) × IsFrame f × (event_of f now ≡ Some e) × may_reply e reply

-- How frames are events of a machine, and how its replies are frames, are parameters, and so is which replies break a
-- session off.
module _ {E R : Type 0} (event_of : Frame → ℕ → Option E) (answer_of : R → Option Frame) (breaks : R → Bool) where
  -- the event is the frame's at that moment, and the answer is the reply's frame
  pub record IsRound (r : Round E R) : Type 0 where
    pub sent : IsFrame r.frame
    pub event : event_of r.frame r.now ≡ Some r.exchange.event
    pub reply : answer_of r.exchange.reply ≡ Some r.answer

  abbrev pub AreRounds : List (Round E R) → Type 0
  AreRounds [] = Unit {0}
  AreRounds (r ∷ rounds) = IsRound r × AreRounds rounds

  -- no reply breaks the session off
  abbrev pub GoOn : List (Round E R) → Type 0
  GoOn [] = Unit {0}
  GoOn (r ∷ rounds) = (breaks r.exchange.reply ≡ false) × GoOn rounds

  -- the last reply does, and no other
  abbrev pub BreakOff : List (Round E R) → Type 0
  BreakOff rounds = (front : List (Round E R)) × (last : Round E R) × (rounds ≡ front ++ last ∷ []) × GoOn front × (breaks last.exchange.reply ≡ true)

-- What was made at a seat is a parameter too.
module _
    {E R Seat : Type 0} (made : List (Exchange E R) → Seat → Seat → Type 0)
    (event_of : Frame → ℕ → Option E) (answer_of : R → Option Frame) (breaks : R → Bool) where
  -- These frames were read, and these bytes behind them. Each frame was asked at the seat, in order, and nothing else was.
  -- These bytes were written.
  pub record Went
      (s0 s1 : Seat) (m0 m1 : ℕ) (t0 t1 : Option Traffic) (rounds : List (Round E R)) (rest written : List ℕ) : Type 0 where
    pub each : AreRounds event_of answer_of breaks rounds
    pub asked_there : made (map exchange_in rounds) s0 s1
    pub moments : Moments m0 rounds m1
    pub over : Over t0 t1 (record { read = asked rounds ++ rest; written = written })
