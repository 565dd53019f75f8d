-- Streams of frames: what is at the start of some bytes, and what a stream gives however it is cut. Own.
use Rattle.std.specs.Prelude.{◌≡◌, ◌<◌, ◌≤◌, ℕ, ◌+◌, ◌-◌, ◌==◌, nat_lt, if◌then◌else◌, List, [], ◌∷◌, ◌++◌, length, take, drop, Option, Some, None, Result, Ok, Err}
use Rattle.std.specs.Int.{w32, from_be_bytes}
use Rattle.frame_wire.specs.declared.error.FrameError.{FrameError}
use Rattle.frame_wire.specs.declared.error.FrameError.TheVariants.{BadKind, BadField, TooLong, OutOfMemory}
use Rattle.frame_wire.specs.declared.frame.Frame.{Frame}
use Rattle.frame_wire.specs.declared.kind.Kind.{Kind}
use Rattle.frame_wire.specs.declared.look.Found.{Found}
use Rattle.frame_wire.specs.declared.look.Found.TheVariants.{More, Whole, Bad}
use Rattle.wire_fields.specs.Fields.{spell_all}
use Rattle.frame_wire.specs.Frames.{payload, whole_frame, most_payload, frame_bytes, IsFrame}
use Rattle.frame_wire.specs.Kinds.{kind_of}

-- the place n bytes on; all places from 2^64 - 1 on count as that one
abbrev pub last_place : ℕ
last_place = 18446744073709551615

abbrev pub place : ℕ → ℕ → ℕ
place at n = if nat_lt last_place (at + n) then last_place else at + n

-- ---- the front of bytes that stand at a place of a stream

-- all bytes of a payload are there
abbrev pub look_whole : ℕ → ℕ → Result Frame ℕ → Found
look_whole at n (Ok f) = Whole f (4 + n)
look_whole at n (Err left) = Bad (BadField (place at (4 + n - left)))

-- the kind is there
abbrev pub look_fields : ℕ → ℕ → List ℕ → ℕ → Option Kind → Found
look_fields at n rest b None = Bad (BadKind (place at 4) b)
look_fields at n rest b (Some k) = if nat_lt (length rest) n then More else look_whole at n (whole_frame (take n rest))

abbrev pub look_kind : ℕ → ℕ → List ℕ → Found
look_kind at n [] = More
look_kind at n (b ∷ rest) = look_fields at n (b ∷ rest) b (kind_of b)

-- the length is there
abbrev pub look_length : ℕ → ℕ → List ℕ → Found
look_length at n rest =
    if n == 0 then Bad (BadField at) else (
    if nat_lt most_payload n then Bad (TooLong n) else
    look_kind at n rest
    )

-- a whole frame and how many bytes it has, or a fault, or neither yet
unfoldable pub look : ℕ → List ℕ → Found
look at bytes = if nat_lt (length bytes) 4 then More else look_length at (from_be_bytes w32 (take 4 bytes)) (drop 4 bytes)

-- the bytes of a whole frame are its spelling
abbrev pub LooksRight : List ℕ → Found → Type 0
LooksRight bytes More = Unit {0}
LooksRight bytes (Whole f len) = IsFrame f × (len ≡ length (frame_bytes f)) × (4 ≤ len) × (len ≤ length bytes) × (bytes ≡ frame_bytes f ++ drop len bytes)
LooksRight bytes (Bad e) = Unit {0}

-- ---- streams

abbrev pub AllFrames : List Frame → Type 0
AllFrames [] = Unit {0}
AllFrames (f ∷ fs) = IsFrame f × AllFrames fs

-- the spellings of frames, one after another
abbrev pub frames_bytes : List Frame → List ℕ
frames_bytes fs = spell_all frame_bytes fs

-- neither a whole frame nor a fault, or that fault
abbrev pub end_look : Option FrameError → Found
end_look None = More
end_look (Some e) = Bad e

-- A stream from a place on is the spellings of these frames and then a rest, which doesn't begin with a whole frame:
-- it is less than one, or begins with a fault.
pub record StreamOf (at : ℕ) (stream : List ℕ) (frames : List Frame) (rest : List ℕ) (end : Option FrameError) : Type 0 where
  pub is : stream ≡ frames_bytes frames ++ rest
  pub each : AllFrames frames
  pub ends : look (place at (length (frames_bytes frames))) rest ≡ end_look end

-- what a reader holds: the frames that are ready, the bytes behind the last frame, the place of the first of these in
-- the stream, and the error that it answers from now on
pub record ReaderState : Type 0 where
  pub ready : List Frame
  pub rest : List ℕ
  pub at : ℕ
  pub failed : Option FrameError

abbrev pub new_reader : ReaderState
new_reader = record { ready = []; rest = []; at = 0; failed = None }

-- the piece was taken: the frames that it completes are ready now, and the rest is kept
abbrev pub Takes : ReaderState → List ℕ → ReaderState → Option FrameError → Type 0
Takes old piece new end =
    (frames : List Frame) × (new.ready ≡ old.ready ++ frames) × (new.at ≡ place old.at (length (frames_bytes frames))) × StreamOf old.at (old.rest ++ piece) frames new.rest end × (new.failed ≡ end)

-- one more piece of the stream
abbrev pub Feeds : ReaderState → List ℕ → ReaderState → Result (Unit {0}) FrameError → Type 0
Feeds old piece new (Ok u) = Takes old piece new None
Feeds old piece new (Err OutOfMemory) = new ≡ old
Feeds old piece new (Err e) = Takes old piece new (Some e)

-- the answer to a piece
abbrev pub outcome : Option FrameError → Result (Unit {0}) FrameError
outcome None = Ok tt
outcome (Some e) = Err e

-- why a frame wasn't written
abbrev pub WriteCause : Frame → FrameError → Type 0
WriteCause f (TooLong n) = (n ≡ length (payload.spell f)) × (most_payload < n)
WriteCause f OutOfMemory = Unit {0}
WriteCause f (BadKind at kind) = ⊥
WriteCause f (BadField at) = ⊥
