-- What a reader of a stream holds.
use Rattle.std.proofs.Common.{◌≡◌, ℕ, Bool, true, false, List, [], ◌∷◌, ◌++◌, length, Option, Some, None, is_some, refl, sym, ap, subst, ◌∙◌, append_assoc}
use Rattle.frame_wire.specs.declared.error.FrameError.{FrameError}
use Rattle.frame_wire.specs.declared.frame.Frame.{Frame}
use Rattle.frame_wire.specs.Frames.{frame_bytes}
use Rattle.frame_wire.specs.Streams.{look, place, AllFrames, frames_bytes, end_look, ReaderState, Takes}

-- the bytes that wait in a reader
abbrev pub kept : ReaderState → List ℕ
kept r = frames_bytes r.ready ++ r.rest

-- the first frame was taken
pub record Next (old : ReaderState) (f : Frame) (new : ReaderState) : Type 0 where
  pub first : old.ready ≡ f ∷ new.ready
  pub rest : new.rest ≡ old.rest
  pub failed : new.failed ≡ old.failed

pub next_of : (old : ReaderState) (f : Frame) (new : ReaderState) → old.ready ≡ f ∷ new.ready → (new.rest ≡ old.rest) × (new.at ≡ old.at) × (new.failed ≡ old.failed) → Next old f new
next_of old f new first same = record { first = first; rest = same.0; failed = same.2 }

-- what is behind the frames that are ready is no whole frame
abbrev pub Held : ReaderState → Type 0
Held r = (at : ℕ) × (look at r.rest ≡ end_look r.failed)

pub look_nothing : look 0 [] ≡ end_look None
unfolding look
look_nothing = refl

pub kept_next : (old : ReaderState) (f : Frame) (new : ReaderState) → Next old f new → kept old ≡ frame_bytes f ++ kept new
kept_next old f new n =
    ap (λ (fs : List Frame). frames_bytes fs ++ old.rest) n.first
    ∙ append_assoc (frame_bytes f) (frames_bytes new.ready) old.rest
    ∙ ap (λ (l : List ℕ). frame_bytes f ++ (frames_bytes new.ready ++ l)) (sym n.rest)

pub kept_rest : (r : ReaderState) → r.ready ≡ [] → kept r ≡ r.rest
kept_rest r none = ap (λ (fs : List Frame). frames_bytes fs ++ r.rest) none

pub kept_taken : (old : ReaderState) (got : List ℕ) (new : ReaderState) (end : Option FrameError) → old.ready ≡ [] → Takes old got new end → kept old ++ got ≡ kept new
kept_taken old got new end none t =
    ap (λ (l : List ℕ). l ++ got) (kept_rest old none)
    ∙ t.3.is
    ∙ ap (λ (fs : List Frame). frames_bytes fs ++ new.rest) (sym (t.1 ∙ ap (λ (fs : List Frame). fs ++ t.0) none))

pub taken_waiting : (old : ReaderState) (got : List ℕ) (new : ReaderState) (end : Option FrameError) → old.ready ≡ [] → Takes old got new end → AllFrames new.ready
taken_waiting old got new end none t = subst AllFrames (sym (t.1 ∙ ap (λ (fs : List Frame). fs ++ t.0) none)) t.3.each

pub taken_held : (old : ReaderState) (got : List ℕ) (new : ReaderState) (end : Option FrameError) → Takes old got new end → Held new
taken_held old got new end t = (place old.at (length (frames_bytes t.0)), t.3.ends ∙ ap end_look (sym t.4))

pub more_or_fault : (r : ReaderState) → Held r → (b : Bool) → b ≡ is_some r.failed → b ≡ true → (at : ℕ) × (e : FrameError) × (look at r.rest ≡ end_look (Some e))
more_or_fault r h b e is_so = go r.failed (sym e ∙ is_so) h.1
  where
    go : (failed : Option FrameError) → is_some failed ≡ true → look h.0 r.rest ≡ end_look failed → (at : ℕ) × (e : FrameError) × (look at r.rest ≡ end_look (Some e))
    go None isnt found = absurd cc
    go (Some x) isnt found = (h.0, x, found)

pub no_fault : (failed : Option FrameError) → is_some failed ≡ false → failed ≡ None
no_fault None e = refl
no_fault (Some x) e = absurd cc

-- no frame waits in it still
pub none_ready : (old new : ReaderState) → new ≡ old → old.ready ≡ [] → new.ready ≡ []
none_ready old new same none = ap (λ (r : ReaderState). r.ready) same ∙ none
