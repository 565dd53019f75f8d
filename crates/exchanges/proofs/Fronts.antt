-- What bytes begin with, and how long the frame is that they begin.
use Rattle.std.proofs.Common.{◌≡◌, ◌∙◌, ℕ, ◌+◌, ◌<◌, ◌≤◌, ◌^◌, Bool, true, false, List, [], ◌∷◌, ◌++◌, length, take, drop, Option, Some, None, Result, Ok, Err, refl, sym, ap, subst, arith, append_assoc, append-nil, length-append, length-drop}
use Rattle.std.specs.Prelude.{nat_lt, ◌==◌, if◌then◌else◌}
use Rattle.std.specs.Int.{w32, from_be_bytes, to_be_bytes}
use Rattle.std.proofs.lemmas.Bool.{ltb-true, eqb-false}
use Rattle.std.proofs.lemmas.List.{take-append-le}
use Rattle.std.proofs.lemmas.Nat.{from_be_bytes-to_be_bytes_4}
use Rattle.wire_fields.specs.Fields.{number32, sized}
use Rattle.frame_wire.specs.declared.error.FrameError.{FrameError}
use Rattle.frame_wire.specs.declared.error.FrameError.TheVariants as faults
use Rattle.frame_wire.specs.declared.frame.Frame.{Frame}
use Rattle.frame_wire.specs.Frames.{payload, frame_bytes, whole_frame, most_payload, IsFrame}
use Rattle.frame_wire.specs.Kinds.{kind_of}
use Rattle.frame_wire.specs.Streams.{look, look_length, look_kind, look_fields, look_whole, end_look, frames_bytes, new_reader, ReaderState, StreamOf, Takes}
use Rattle.exchanges.specs.declared.front.Front.TheVariants as fronts
use Rattle.exchanges.specs.FrameExchanges.{BeginsWith, front_of}

-- ---- what a reader says of the bytes that it was given

none_of : (bytes rest : List ℕ) (frames : List Frame) (e : Option FrameError) → frames ≡ [] → StreamOf 0 bytes frames rest e → look 0 bytes ≡ end_look e
none_of bytes rest [] e is s = subst (λ (xs : List ℕ). look 0 xs ≡ end_look e) (sym s.is) s.ends
none_of bytes rest (f ∷ fs) e is s = absurd (let h : ⊥ = cc in h)

takes_none : (bytes : List ℕ) (new : ReaderState) (e : Option FrameError) → Takes new_reader bytes new e → new.ready ≡ [] → look 0 bytes ≡ end_look e
takes_none bytes new e u none = none_of bytes new.rest u.0 e (sym u.1 ∙ none) u.3

pub front_none : (bytes : List ℕ) (new : ReaderState) (end : Option FrameError) → Takes new_reader bytes new end → new.ready ≡ [] → BeginsWith bytes (front_of end)
front_none bytes new None u none = takes_none bytes new None u none
front_none bytes new (Some e) u none = (e, takes_none bytes new (Some e) u none, refl)

whole_of : (bytes rest : List ℕ) (f : Frame) (more frames : List Frame) (e : Option FrameError) → frames ≡ f ∷ more → StreamOf 0 bytes frames rest e → BeginsWith bytes (fronts.Whole f)
whole_of bytes rest f more [] e is s = absurd (let h : ⊥ = cc in h)
whole_of bytes rest f more (g ∷ gs) e is s =
    let same : g ≡ f = cc in (
      subst IsFrame same s.each.0,
      (
        frames_bytes gs ++ rest,
        subst (λ (h : Frame). bytes ≡ frame_bytes h ++ (frames_bytes gs ++ rest)) same (s.is ∙ append_assoc (frame_bytes g) (frames_bytes gs) rest),
      ),
    )

pub front_whole : (bytes : List ℕ) (new : ReaderState) (end : Option FrameError) (f : Frame) (more : List Frame) → Takes new_reader bytes new end → new.ready ≡ f ∷ more → BeginsWith bytes (fronts.Whole f)
front_whole bytes new end f more t some = whole_of bytes new.rest f more t.0 end (sym t.1 ∙ some) t.3

-- ---- how long the frame is

-- a spelling begins with its length
spelled_len : (p more : List ℕ) → length p < 2 ^ 32 → from_be_bytes w32 (take 4 ((sized number32).spell p ++ more)) ≡ length p
unfolding number32
spelled_len p more small = from_be_bytes-to_be_bytes_4 (length p) small

spelled_length : (p : List ℕ) → length ((sized number32).spell p) ≡ 4 + length p
unfolding number32
spelled_length p = length-append (to_be_bytes w32 (length p)) p

some_payload : (f : Frame) → 1 ≤ length (payload.spell f)
unfolding payload
some_payload f = omega arith

none_left : (front more : List ℕ) → length (front ++ more) ≤ length front → front ++ more ≡ front
none_left front [] h = append-nil front
none_left front (x ∷ more) h = let l = length-append front (x ∷ more) in absurd (omega arith)

-- bytes that begin with a frame and are no more than its length are the frame
whole_is : (bytes : List ℕ) (f : Frame) → BeginsWith bytes (fronts.Whole f) → length bytes ≤ length (frame_bytes f) → IsFrame f × (bytes ≡ frame_bytes f)
whole_is bytes f h few = (h.0, h.1.1 ∙ none_left (frame_bytes f) h.1.0 (subst (λ (xs : List ℕ). length xs ≤ length (frame_bytes f)) h.1.1 few))

pub whole_short : (bytes : List ℕ) (f : Frame) → BeginsWith bytes (fronts.Whole f) → length bytes ≤ 5 → IsFrame f × (bytes ≡ frame_bytes f)
whole_short bytes f h few = let l = spelled_length (payload.spell f) in let some = some_payload f in whole_is bytes f h (omega arith)

pub whole_filled : (bytes : List ℕ) (total : ℕ) (f : Frame) → BeginsWith bytes (fronts.Whole f) → total ≡ 4 + from_be_bytes w32 (take 4 bytes) → length bytes ≤ total → IsFrame f × (bytes ≡ frame_bytes f)
whole_filled bytes total f h is few =
    let l = spelled_length (payload.spell f) in
    let short : length (payload.spell f) ≤ 5242880 = h.0.1 in
    let n = spelled_len (payload.spell f) h.1.0 (omega arith) in
    let same : from_be_bytes w32 (take 4 bytes) ≡ length (payload.spell f) = ap (λ (xs : List ℕ). from_be_bytes w32 (take 4 xs)) h.1.1 ∙ n in
    whole_is bytes f h (omega arith)

-- the length stays the same if more bytes come
pub same_len : (bytes got : List ℕ) → 4 ≤ length bytes → from_be_bytes w32 (take 4 (bytes ++ got)) ≡ from_be_bytes w32 (take 4 bytes)
same_len bytes got long =
    let same : take 4 (bytes ++ got) ≡ take 4 bytes = take-append-le 4 bytes got long in
    ap (λ (xs : List ℕ). from_be_bytes w32 xs) same

-- ---- bytes that aren't a whole frame yet

whole_more : (at n : ℕ) (r : Result Frame ℕ) → look_whole at n r ≡ end_look None → ⊥
whole_more at n (Ok g) h = cc
whole_more at n (Err left) h = cc

enough_more : (at n : ℕ) (rest : List ℕ) (t : Bool) → nat_lt (length rest) n ≡ t → (if t then end_look None else look_whole at n (whole_frame (take n rest))) ≡ end_look None → length rest < n
enough_more at n rest true is h = ltb-true (length rest) n is
enough_more at n rest false is h = absurd (whole_more at n (whole_frame (take n rest)) h)

fields_more : (at n : ℕ) (rest : List ℕ) (b : ℕ) → look_fields at n rest b (kind_of b) ≡ end_look None → length rest < n
fields_more at n rest b e = elim (kind_of b) as (λ k. look_fields at n rest b k ≡ end_look None → length rest < n) [
  | None ↦ λ h. absurd (let x : ⊥ = cc in x)
  | Some k ↦ λ h. enough_more at n rest (nat_lt (length rest) n) refl h
] e

kind_more : (at n : ℕ) (rest : List ℕ) → (n ≡ 0 → ⊥) → look_kind at n rest ≡ end_look None → length rest < n
kind_more at n [] some e = let positive : (n ≡ 0 → ⊥) = some in omega arith
kind_more at n (b ∷ rest) some e = fields_more at n (b ∷ rest) b e

large_more : (at n : ℕ) (rest : List ℕ) (t : Bool) → (n ≡ 0 → ⊥) → (if t then end_look (Some (faults.TooLong n)) else look_kind at n rest) ≡ end_look None → length rest < n
large_more at n rest true some h = absurd (let x : ⊥ = cc in x)
large_more at n rest false some h = kind_more at n rest some h

length_more : (at n : ℕ) (rest : List ℕ) (t : Bool) → (n == 0) ≡ t → (if t then end_look (Some (faults.BadField at)) else (if nat_lt most_payload n then end_look (Some (faults.TooLong n)) else look_kind at n rest)) ≡ end_look None → length rest < n
length_more at n rest true is h = absurd (let x : ⊥ = cc in x)
length_more at n rest false is h = large_more at n rest (nat_lt most_payload n) (eqb-false n 0 is) h

front_more : (at n : ℕ) (bytes : List ℕ) (t : Bool) → nat_lt (length bytes) 4 ≡ t → 4 ≤ length bytes → (if t then end_look None else look_length at n (drop 4 bytes)) ≡ end_look None → length bytes < 4 + n
front_more at n bytes true is long h = let l = ltb-true (length bytes) 4 is in absurd (omega arith)
front_more at n bytes false is long h = let m = length_more at n (drop 4 bytes) (n == 0) refl h in omega (arith, length-drop 4 bytes)

-- they are fewer than their first four say
pub look_more : (at : ℕ) (bytes : List ℕ) → 4 ≤ length bytes → look at bytes ≡ end_look None → length bytes < 4 + from_be_bytes w32 (take 4 bytes)
unfolding look
look_more at bytes long e = front_more at (from_be_bytes w32 (take 4 bytes)) bytes (nat_lt (length bytes) 4) refl long e
