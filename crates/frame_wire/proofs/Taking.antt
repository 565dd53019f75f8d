-- Takes the frames at the start of some bytes one after the other.
use Rattle.std.proofs.Common.{◌≡◌, ℕ, ◌+◌, ◌≤◌, ◌<◌, List, [], ◌∷◌, ◌++◌, length, take, drop, Option, Some, None, Result, Ok, Err, Bool, true, false, cond, ltb, eqb, refl, sym, ap, subst, ◌∙◌, append_assoc, arith}
use Rattle.std.proofs.lemmas.List.{length-append, length-drop, drop-drop}
use Rattle.frame_wire.specs.declared.frame.Frame.{Frame}
use Rattle.frame_wire.specs.declared.error.FrameError.{FrameError}
use Rattle.frame_wire.specs.declared.look.Found.{Found}
use Rattle.frame_wire.specs.declared.look.Found.TheVariants.{More, Whole, Bad}
use Rattle.frame_wire.specs.declared.error.FrameError.TheVariants.{BadKind, BadField, TooLong, OutOfMemory}
use Rattle.frame_wire.specs.declared.kind.Kind.{Kind}
use Rattle.frame_wire.specs.Kinds.{kind_of}
use Rattle.std.specs.Int.{w32, from_be_bytes}
use Rattle.frame_wire.specs.Frames.{frame_bytes, IsFrame, whole_frame, most_payload}
use Rattle.frame_wire.specs.Streams.{place, look, look_length, look_kind, look_fields, look_whole, LooksRight, AllFrames, frames_bytes, end_look, StreamOf, ReaderState, Takes, Feeds, outcome}
use Rattle.wire_fields.proofs.Loops.{spell_all-more}

-- the bytes begin with the spellings of these frames, which have `used` bytes
pub record TakenTo (bytes : List ℕ) (frames : List Frame) (used : ℕ) : Type 0 where
  pub within : used ≤ length bytes
  pub size : used ≡ length (frames_bytes frames)
  pub is : bytes ≡ frames_bytes frames ++ drop used bytes
  pub each : AllFrames frames

AllFrames-more : (fs : List Frame) (f : Frame) → AllFrames fs → IsFrame f → AllFrames (fs ++ f ∷ [])
AllFrames-more [] f all one = (one, tt)
AllFrames-more (g ∷ gs) f all one = (all.0, AllFrames-more gs f all.1 one)

pub taken_none : (bytes : List ℕ) → TakenTo bytes [] 0
taken_none bytes = record { within = omega arith; size = refl; is = refl; each = tt }

pub taken_more : (bytes : List ℕ) (fs : List Frame) (used : ℕ) (f : Frame) (len : ℕ) → TakenTo bytes fs used → LooksRight (drop used bytes) (Whole f len) → TakenTo bytes (fs ++ f ∷ []) (used + len)
taken_more bytes fs used f len t right =
    let spelled : frames_bytes (fs ++ f ∷ []) ≡ frames_bytes fs ++ frame_bytes f = spell_all-more frame_bytes fs f in
    let rest : drop len (drop used bytes) ≡ drop (used + len) bytes = drop-drop len used bytes in
    let behind : drop used bytes ≡ frame_bytes f ++ drop (used + len) bytes = right.4 ∙ ap (λ (r : List ℕ). frame_bytes f ++ r) rest in
    record {
      within = omega (arith, t.within, right.3, length-drop used bytes);
      size = omega (arith, t.size, right.1, ap length spelled, length-append (frames_bytes fs) (frame_bytes f));
      is = t.is ∙ ap (λ (r : List ℕ). frames_bytes fs ++ r) behind ∙ sym (append_assoc (frames_bytes fs) (frame_bytes f) (drop (used + len) bytes)) ∙ ap (λ (r : List ℕ). r ++ drop (used + len) bytes) (sym spelled);
      each = AllFrames-more fs f t.each right.0;
    }

pub stream_from : (at : ℕ) (bytes : List ℕ) (fs : List Frame) (used : ℕ) (end : Option FrameError) (found : Found) → TakenTo bytes fs used → found ≡ look (place at used) (drop used bytes) → found ≡ end_look end → StreamOf at bytes fs (drop used bytes) end
stream_from at bytes fs used end found t looked ended =
    record { is = t.is; each = t.each; ends = ap (λ (n : ℕ). look (place at n) (drop used bytes)) (sym t.size) ∙ sym looked ∙ ended }

-- ---- no fault of a stream is OutOfMemory

abbrev IsOfStream : Found → Type 0
IsOfStream (Bad OutOfMemory) = ⊥
IsOfStream found = Unit {0}

choice : (b : Bool) (x y : Found) → IsOfStream x → IsOfStream y → IsOfStream (cond b x y)
choice true x y p q = p
choice false x y p q = q

whole_of_stream : (at n : ℕ) (r : Result Frame ℕ) → IsOfStream (look_whole at n r)
whole_of_stream at n (Ok f) = tt
whole_of_stream at n (Err left) = tt

fields_of_stream : (at n : ℕ) (rest : List ℕ) (b : ℕ) (found : Option Kind) → IsOfStream (look_fields at n rest b found)
fields_of_stream at n rest b None = tt
fields_of_stream at n rest b (Some k) = choice (ltb (length rest) n) _ _ tt (whole_of_stream at n (whole_frame (take n rest)))

kind_of_stream : (at n : ℕ) (rest : List ℕ) → IsOfStream (look_kind at n rest)
kind_of_stream at n [] = tt
kind_of_stream at n (b ∷ rest) = fields_of_stream at n (b ∷ rest) b (kind_of b)

length_of_stream : (at n : ℕ) (rest : List ℕ) → IsOfStream (look_length at n rest)
length_of_stream at n rest = choice (eqb n 0) _ _ tt (choice (ltb most_payload n) _ _ tt (kind_of_stream at n rest))

look_of_stream : (at : ℕ) (bytes : List ℕ) → IsOfStream (look at bytes)
unfolding look
look_of_stream at bytes = choice (ltb (length bytes) 4) _ _ tt (length_of_stream at (from_be_bytes w32 (take 4 bytes)) (drop 4 bytes))

pub feeds_from : (old : ReaderState) (piece : List ℕ) (new : ReaderState) (end : Option FrameError) → Takes old piece new end → Feeds old piece new (outcome end)
feeds_from old piece new None t = t
feeds_from old piece new (Some OutOfMemory) t = absurd (subst IsOfStream t.3.ends (look_of_stream (place old.at (length (frames_bytes t.0))) new.rest))
feeds_from old piece new (Some (BadKind at kind)) t = t
feeds_from old piece new (Some (BadField at)) t = t
feeds_from old piece new (Some (TooLong n)) t = t
