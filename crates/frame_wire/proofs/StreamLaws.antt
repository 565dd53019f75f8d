-- Streams are read in only one way, however they are cut.
use Rattle.std.proofs.Common.{◌≡◌, ℕ, zero, suc, ◌+◌, ◌≤◌, ◌<◌, Bool, true, false, cond, ltb, eqb, List, [], ◌∷◌, ◌++◌, length, take, drop, Option, Some, None, option_map, Result, Ok, Err, refl, sym, ap, subst, ◌∙◌, append_assoc, arith}
use Rattle.std.specs.Int.{w32, from_be_bytes, to_be_bytes}
use Rattle.std.proofs.lemmas.Bool.{ltb-false, le-ltb}
use Rattle.std.proofs.lemmas.Bool.Decides.{nat_tests}
use Rattle.std.proofs.lemmas.List.{append-nil, length-append, take_at, drop_at}
use Rattle.frame_wire.specs.declared.error.FrameError.{FrameError}
use Rattle.frame_wire.specs.declared.frame.Frame.{Frame}
use Rattle.frame_wire.specs.declared.kind.Kind.{Kind}
use Rattle.frame_wire.specs.declared.look.Found.{Found}
use Rattle.frame_wire.specs.declared.look.Found.TheVariants.{More, Whole, Bad}
use Rattle.wire_fields.specs.Fields.{number32, sized}
use Rattle.frame_wire.specs.Kinds.{kind_of, byte_of}
use Rattle.frame_wire.specs.Frames.{payload, whole_frame, most_payload, frame_bytes, IsFrame, frame_kind, frame_fields}
use Rattle.frame_wire.specs.Streams.{place, last_place, look, look_length, look_kind, look_fields, look_whole, AllFrames, frames_bytes, end_look, StreamOf, ReaderState, Takes}
use Rattle.frame_wire.specs.Laws.{ReadsSpelling, NoPrefix, OneReading, JoinsPieces}
use Rattle.wire_fields.proofs.FieldLaws.{wide32}
use Rattle.frame_wire.proofs.FrameLaws.{whole_again}
use Rattle.frame_wire.proofs.KindLaws.{byte_of-kind}
use Rattle.frame_wire.proofs.LookLaws.{length-sized}

-- ---- a frame that is spelled is found

tagged_first : (f : Frame) → payload.spell f ≡ byte_of (frame_kind f) ∷ frame_fields f
unfolding payload
tagged_first f = refl

seen_fields : (at : ℕ) (f : Frame) (rest : List ℕ) → IsFrame f → look_fields at (length (payload.spell f)) (payload.spell f ++ rest) (byte_of (frame_kind f)) (Some (frame_kind f)) ≡ Whole f (4 + length (payload.spell f))
seen_fields at f rest fits =
    let long : ltb (length (payload.spell f ++ rest)) (length (payload.spell f)) ≡ false = le-ltb _ _ (omega (arith, length-append (payload.spell f) rest)) in
    rw (long, take_at (payload.spell f) rest (length (payload.spell f)) refl, whole_again f fits.0) refl

first_kind : (at n : ℕ) (b : ℕ) (bytes rest : List ℕ) (found : Option Kind) → rest ≡ b ∷ bytes → kind_of b ≡ found → look_kind at n rest ≡ look_fields at n rest b found
first_kind at n b bytes rest found is known = subst (λ (r : List ℕ). look_kind at n r ≡ look_fields at n r b found) (sym is) (ap (λ (k : Option Kind). look_fields at n (b ∷ bytes) b k) known)

seen_kind : (at : ℕ) (f : Frame) (rest : List ℕ) → IsFrame f → look_kind at (length (payload.spell f)) (payload.spell f ++ rest) ≡ Whole f (4 + length (payload.spell f))
seen_kind at f rest fits =
    first_kind at (length (payload.spell f)) (byte_of (frame_kind f)) (frame_fields f ++ rest) (payload.spell f ++ rest) (Some (frame_kind f)) (ap (λ (l : List ℕ). l ++ rest) (tagged_first f)) (byte_of-kind (frame_kind f))
    ∙ seen_fields at f rest fits

not_zero : (n : ℕ) → 0 < n → eqb n 0 ≡ false
not_zero n lt = grind (arith, nat_tests)

seen_length : (at : ℕ) (f : Frame) (rest : List ℕ) → IsFrame f → look_length at (length (payload.spell f)) (payload.spell f ++ rest) ≡ Whole f (4 + length (payload.spell f))
seen_length at f rest fits =
    let some : eqb (length (payload.spell f)) 0 ≡ false = not_zero (length (payload.spell f)) (omega (arith, ap length (tagged_first f))) in
    let few : ltb most_payload (length (payload.spell f)) ≡ false = le-ltb _ _ fits.1 in
    rw (some, few) (seen_kind at f rest fits)

front_of : (at : ℕ) (h q : List ℕ) → length h ≡ 4 → look at (h ++ q) ≡ look_length at (from_be_bytes w32 h) q
unfolding look
front_of at h q four =
    let long : ltb (length (h ++ q)) 4 ≡ false = le-ltb _ _ (omega (arith, length-append h q, four)) in
    rw (long, take_at h q 4 four, drop_at h q 4 four) refl

front : (at n : ℕ) (q : List ℕ) → n < 4294967296 → look at (to_be_bytes w32 n ++ q) ≡ look_length at n q
front at n q small = front_of at (to_be_bytes w32 n) q (wide32.len n) ∙ ap (λ (m : ℕ). look_length at m q) (wide32.again n small)

regrouped : (p rest : List ℕ) → (sized number32).spell p ++ rest ≡ to_be_bytes w32 (length p) ++ (p ++ rest)
unfolding number32
regrouped p rest = append_assoc (to_be_bytes w32 (length p)) p rest

pub reads_spelling : ReadsSpelling
reads_spelling at f rest fits =
    ap (look at) (regrouped (payload.spell f) rest)
    ∙ front at (length (payload.spell f)) (payload.spell f ++ rest) (omega (arith, fits.1))
    ∙ seen_length at f rest fits
    ∙ ap (λ (n : ℕ). Whole f n) (sym (length-sized (payload.spell f)))

-- ---- no spelling begins another

same_frame : (f g : Frame) (m n : ℕ) → Whole f m ≡ Whole g n → f ≡ g
same_frame f g m n e = cc

pub no_prefix : NoPrefix
no_prefix f g x y F G e =
    let same : f ≡ g = same_frame f g (length (frame_bytes f)) (length (frame_bytes g)) (sym (reads_spelling 0 f x F) ∙ ap (look 0) e ∙ reads_spelling 0 g y G) in
    let behind : x ≡ y = sym (drop_at (frame_bytes f) x (length (frame_bytes f)) refl) ∙ ap (drop (length (frame_bytes f))) e ∙ drop_at (frame_bytes g) y (length (frame_bytes f)) (ap (λ (h : Frame). length (frame_bytes h)) (sym same)) in
    (same, behind)

-- ---- a stream is read in one way

place-place : (at n m : ℕ) → place at (n + m) ≡ place (place at n) m
place-place at n m = grind (arith, nat_tests)

whole_ends : (f : Frame) (n : ℕ) (d : Option FrameError) → Whole f n ≡ end_look d → ⊥
whole_ends f n None e = cc
whole_ends f n (Some x) e = cc

same_end : (d e : Option FrameError) → end_look d ≡ end_look e → d ≡ e
same_end None None h = refl
same_end None (Some y) h = absurd cc
same_end (Some x) None h = absurd cc
same_end (Some x) (Some y) h = cc

abbrev Ends : ℕ → List Frame → List ℕ → Option FrameError → Type 0
Ends at fs x d = look (place at (length (frames_bytes fs))) x ≡ end_look d

further : (at : ℕ) (f : Frame) (fs : List Frame) (x : List ℕ) (d : Option FrameError) → Ends at (f ∷ fs) x d → Ends (place at (length (frame_bytes f))) fs x d
further at f fs x d e =
    ap (λ (n : ℕ). look n x) (sym (place-place at (length (frame_bytes f)) (length (frames_bytes fs))) ∙ ap (place at) (sym (length-append (frame_bytes f) (frames_bytes fs)))) ∙ e

one :
    (at : ℕ) (fs gs : List Frame) (x y : List ℕ) (d e : Option FrameError)
    → AllFrames fs → AllFrames gs → frames_bytes fs ++ x ≡ frames_bytes gs ++ y → Ends at fs x d → Ends at gs y e → (fs ≡ gs) × (x ≡ y) × (d ≡ e)
one at [] [] x y d e F G same p q = (refl, same, same_end d e (sym p ∙ ap (look (place at 0)) same ∙ q))
one at [] (g ∷ gs) x y d e F G same p q =
    absurd (whole_ends g _ d (sym (reads_spelling (place at 0) g (frames_bytes gs ++ y) G.0) ∙ ap (look (place at 0)) (sym (same ∙ append_assoc (frame_bytes g) (frames_bytes gs) y)) ∙ p))
one at (f ∷ fs) [] x y d e F G same p q =
    absurd (whole_ends f _ e (sym (reads_spelling (place at 0) f (frames_bytes fs ++ x) F.0) ∙ ap (look (place at 0)) (sym (append_assoc (frame_bytes f) (frames_bytes fs) x) ∙ same) ∙ q))
one at (f ∷ fs) (g ∷ gs) x y d e F G same p q =
    let n = no_prefix f g (frames_bytes fs ++ x) (frames_bytes gs ++ y) F.0 G.0 (sym (append_assoc (frame_bytes f) (frames_bytes fs) x) ∙ same ∙ append_assoc (frame_bytes g) (frames_bytes gs) y) in
    let q' : Ends (place at (length (frame_bytes f))) gs y e = subst (λ (h : Frame). Ends (place at (length (frame_bytes h))) gs y e) (sym n.0) (further at g gs y e q) in
    let o = one (place at (length (frame_bytes f))) fs gs x y d e F.1 G.1 n.1 (further at f fs x d p) q' in
    (ap (λ (h : Frame). h ∷ fs) n.0 ∙ ap (λ (hs : List Frame). g ∷ hs) o.0, o.1, o.2)

pub one_reading : OneReading
one_reading at stream fs gs x y d e s t = one at fs gs x y d e s.each t.each (sym s.is ∙ t.is) s.ends t.ends

-- ---- two pieces

frames-append : (fs gs : List Frame) → frames_bytes (fs ++ gs) ≡ frames_bytes fs ++ frames_bytes gs
frames-append [] gs = refl
frames-append (f ∷ fs) gs = ap (λ (l : List ℕ). frame_bytes f ++ l) (frames-append fs gs) ∙ sym (append_assoc (frame_bytes f) (frames_bytes fs) (frames_bytes gs))

AllFrames-append : (fs gs : List Frame) → AllFrames fs → AllFrames gs → AllFrames (fs ++ gs)
AllFrames-append [] gs F G = G
AllFrames-append (f ∷ fs) gs F G = (F.0, AllFrames-append fs gs F.1 G)

-- the frames that wait in a reader may be sent
pub frames_ready : (old : ReaderState) (piece : List ℕ) (new : ReaderState) → Takes old piece new None → AllFrames old.ready → AllFrames new.ready
frames_ready old piece new t all = subst AllFrames (sym t.1) (AllFrames-append old.ready t.0 all t.3.each)

pub joins_pieces : JoinsPieces
joins_pieces at stream piece fs gs x y e s t =
    let a = frames_bytes fs in
    let b = frames_bytes gs in
    record {
      is = ap (λ (l : List ℕ). l ++ piece) s.is ∙ append_assoc a x piece ∙ ap (λ (l : List ℕ). a ++ l) t.is ∙ sym (append_assoc a b y) ∙ ap (λ (l : List ℕ). l ++ y) (sym (frames-append fs gs));
      each = AllFrames-append fs gs s.each t.each;
      ends = ap (λ (n : ℕ). look n y) (ap (place at) (ap length (frames-append fs gs) ∙ length-append a b) ∙ place-place at (length a) (length b)) ∙ t.ends;
    }
