-- Whether a stream has ended behind a whole frame, seen by one more frame.
use Rattle.std.proofs.Common.{◌≡◌, ◌↔◌, ℕ, Bool, true, false, List, [], ◌∷◌, ◌++◌, Option, Some, None, Result, Ok, Err, MatchOption, IsTrue, refl, sym, ap, subst, ◌∙◌, append-nil, append_assoc, arith}
use Rattle.std.proofs.lemmas.Bool.{false≢true}
use Rattle.frame_wire.specs.declared.error.FrameError.{FrameError}
use Rattle.frame_wire.specs.declared.error.FrameError.TheVariants.{OutOfMemory, BadKind, BadField, TooLong}
use Rattle.frame_wire.specs.declared.frame.Frame.{Frame}
use Rattle.frame_wire.specs.declared.frame.Frame.TheVariants.{Idle}
use Rattle.wire_fields.specs.Fields.{number32}
use Rattle.frame_wire.specs.Frames.{payload, frame_bytes, IsFrame}
use Rattle.frame_wire.specs.Streams.{look, end_look, frames_bytes, StreamOf, ReaderState, Takes, Feeds}
use Rattle.frame_wire.specs.Laws.{ReadsSpelling, OneReading}
use Rattle.frame_session.specs.Sessions.{IsBeginning}

-- the bytes of a frame that is Idle
abbrev pub idle : List ℕ
idle = 0 ∷ 0 ∷ 0 ∷ 1 ∷ 19 ∷ []

idle_bytes : frame_bytes Idle ≡ idle
unfolding payload number32
idle_bytes = refl

idle_is_frame : IsFrame Idle
unfolding payload
idle_is_frame = (tt, omega arith)

look_nothing : (at : ℕ) → look at [] ≡ end_look None
unfolding look
look_nothing at = refl

-- a beginning that some frame completes to Idle is nothing
idle_alone : ReadsSpelling → (rest more : List ℕ) → rest ++ idle ≡ idle ++ more → IsBeginning rest → rest ≡ []
idle_alone reads [] more e b = refl
idle_alone reads (a ∷ []) more e b = absurd (let h : ⊥ = cc in h)
idle_alone reads (a ∷ x ∷ []) more e b = absurd (let h : ⊥ = cc in h)
idle_alone reads (a ∷ x ∷ y ∷ []) more e b = absurd (let h : ⊥ = cc in h)
idle_alone reads (a ∷ x ∷ y ∷ z ∷ []) more e b = absurd (let h : ⊥ = cc in h)
idle_alone reads (a ∷ x ∷ y ∷ z ∷ k ∷ rest) more e b =
    let first : a ∷ x ∷ y ∷ z ∷ k ∷ rest ≡ 0 ∷ 0 ∷ 0 ∷ 1 ∷ 19 ∷ rest = cc in
    let is : a ∷ x ∷ y ∷ z ∷ k ∷ rest ≡ frame_bytes Idle ++ rest = first ∙ ap (λ (l : List ℕ). l ++ rest) (sym idle_bytes) in
    let both = sym b.1 ∙ ap (look b.0) is ∙ reads b.0 Idle rest idle_is_frame in
    absurd (let h : ⊥ = cc in h)

-- the frame that was added comes first
idle_stream : (at : ℕ) → StreamOf at idle (Idle ∷ []) [] None
idle_stream at = record {
  is = sym idle_bytes ∙ sym (append-nil (frame_bytes Idle)) ∙ sym (append-nil (frame_bytes Idle ++ []));
  each = (idle_is_frame, tt);
  ends = look_nothing _;
}

pub taken_by : (old new : ReaderState) (piece : List ℕ) (result : Result (Unit {0}) FrameError) → Feeds old piece new result → (result ≡ Err OutOfMemory → ⊥) → (end : Option FrameError) × Takes old piece new end
taken_by old new piece (Ok u) f isnt = (None, f)
taken_by old new piece (Err OutOfMemory) f isnt = absurd (isnt refl)
taken_by old new piece (Err (BadKind at kind)) f isnt = (Some (BadKind at kind), f)
taken_by old new piece (Err (BadField at)) f isnt = (Some (BadField at), f)
taken_by old new piece (Err (TooLong n)) f isnt = (Some (TooLong n), f)

module _ (old new : ReaderState) (end : Option FrameError) (none : old.ready ≡ []) (t : Takes old idle new end) where
  now_ready : new.ready ≡ t.0
  now_ready = t.1 ∙ ap (λ (fs : List Frame). fs ++ t.0) none

  pub was_whole : ReadsSpelling → (more : List Frame) → new.ready ≡ Idle ∷ more → IsBeginning old.rest → old.rest ≡ []
  was_whole reads more first b =
      let frames : t.0 ≡ Idle ∷ more = sym now_ready ∙ first in
      let behind : List ℕ = frames_bytes more ++ new.rest in
      let grouped : frames_bytes (Idle ∷ more) ++ new.rest ≡ frame_bytes Idle ++ behind = append_assoc (frame_bytes Idle) (frames_bytes more) new.rest in
      idle_alone reads old.rest behind (t.3.is ∙ ap (λ (fs : List Frame). frames_bytes fs ++ new.rest) frames ∙ grouped ∙ ap (λ (l : List ℕ). l ++ behind) idle_bytes) b

  pub whole_is_first : OneReading → old.rest ≡ [] → new.ready ≡ Idle ∷ []
  whole_is_first one nothing =
      let stream : StreamOf old.at idle t.0 new.rest end = subst (λ (r : List ℕ). StreamOf old.at (r ++ idle) t.0 new.rest end) nothing t.3 in
      now_ready ∙ (one old.at idle t.0 (Idle ∷ []) new.rest [] end None stream (idle_stream old.at)).0

-- ---- the three answers of the reader to one frame more

module _ (reads : ReadsSpelling) (one : OneReading) (old new : ReaderState) (fed : Result (Unit {0}) FrameError) (none : old.ready ≡ []) (feeds : Feeds old idle new fed) (kept : fed ≡ Err OutOfMemory → ⊥) (begins : IsBeginning old.rest) where
  idle_next : (more : List Frame) → new.ready ≡ Idle ∷ more → old.rest ≡ []
  idle_next more first =
      let t = taken_by old new idle fed feeds kept in
      was_whole old new t.0 none t.1 reads more first begins

  other_next : (f : Frame) (more : List Frame) → new.ready ≡ f ∷ more → (f ≡ Idle → ⊥) → old.rest ≡ [] → ⊥
  other_next f more first isnt nothing =
      let t = taken_by old new idle fed feeds kept in
      let is : f ∷ more ≡ Idle ∷ [] = sym first ∙ whole_is_first old new t.0 none t.1 one nothing in
      let same : f ≡ Idle = cc in
      isnt same

  none_next : new.ready ≡ [] → old.rest ≡ [] → ⊥
  none_next empty nothing =
      let t = taken_by old new idle fed feeds kept in
      let is : [] ≡ Idle ∷ [] = sym empty ∙ whole_is_first old new t.0 none t.1 one nothing in
      cc

  -- the next frame is Idle only behind a whole frame
  pub told_by : (after : ReaderState) (next : Option Frame) → MatchOption next (new.ready ≡ []) (λ f. new.ready ≡ f ∷ after.ready) → (r : Bool) → (r ≡ true → next ≡ Some Idle) → (r ≡ false → next ≡ Some Idle → ⊥) → IsTrue r ↔ (old.rest ≡ [])
  told_by after None m true idle other = let e : None ≡ Some Idle = idle refl in absurd cc
  told_by after None m false idle other = ((λ e. absurd (false≢true e)), (λ e. absurd (none_next m e)))
  told_by after (Some f) m true idle other =
      let e : Some f ≡ Some Idle = idle refl in
      let same : f ≡ Idle = cc in
      ((λ h. idle_next after.ready (m ∙ ap (λ (g : Frame). g ∷ after.ready) same)), (λ h. refl))
  told_by after (Some f) m false idle other = ((λ e. absurd (false≢true e)), (λ e. absurd (other_next f after.ready m (λ same. other refl (ap Some same)) e)))
