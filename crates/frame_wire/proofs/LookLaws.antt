-- The bytes of a whole frame that is found are its spelling, and a frame that is spelled is found.
use Rattle.std.proofs.Common.{◌≡◌, ℕ, zero, suc, ◌+◌, ◌≤◌, ◌<◌, Bool, true, false, cond, ltb, eqb, List, [], ◌∷◌, ◌++◌, length, take, drop, Option, Some, None, Result, Ok, Err, refl, sym, ap, subst, ◌∙◌, append_assoc, arith}
use Rattle.std.specs.Prelude.{IfOk}
use Rattle.std.specs.Int.{w32, from_be_bytes, to_be_bytes}
use Rattle.std.proofs.lemmas.Bool.{ltb-false, le-ltb, eqb-true}
use Rattle.std.proofs.lemmas.List.{length-append, length-take-le, take_at, drop_at, drop-drop}
use Rattle.lists_and_limits.specs.declared.memory.OutOfMemory.{OutOfMemory}
use Rattle.frame_wire.specs.declared.frame.Frame.{Frame}
use Rattle.frame_wire.specs.declared.kind.Kind.{Kind}
use Rattle.frame_wire.specs.declared.look.Found.{Found}
use Rattle.frame_wire.specs.declared.look.Found.TheVariants.{More, Whole, Bad}
use Rattle.wire_fields.specs.Fields.{number32, sized}
use Rattle.frame_wire.specs.Kinds.{kind_of}
use Rattle.frame_wire.specs.Frames.{payload, whole_frame, most_payload, frame_bytes, IsFrame}
use Rattle.frame_wire.specs.Streams.{look, look_length, look_kind, look_fields, look_whole, LooksRight}
use Rattle.wire_fields.proofs.FieldLaws.{IsBytes, IsBytes-take, IsBytes-drop, number32_law, sized_law, wide32}
use Rattle.frame_wire.proofs.FrameLaws.{whole_takes, whole_again, payload_law}

pub right_from : (at : ℕ) (bytes : List ℕ) (r : Result Found OutOfMemory) → IfOk r (λ found. found ≡ look at bytes) → LooksRight bytes (look at bytes) → IfOk r (λ found. LooksRight bytes found)
right_from at bytes (Ok found) is right = subst (λ (f : Found). LooksRight bytes f) (sym is) right
right_from at bytes (Err e) is right = tt

pub length-sized : (p : List ℕ) → length ((sized number32).spell p) ≡ 4 + length p
unfolding number32
length-sized p = omega (arith, length-append (to_be_bytes w32 (length p)) p, wide32.len (length p))

-- bytes that begin with a whole length, which isn't too great
record Long (bytes : List ℕ) (n : ℕ) : Type 0 where
  fits : IsBytes bytes
  long : 4 ≤ length bytes
  is : n ≡ from_be_bytes w32 (take 4 bytes)
  small : n ≤ most_payload

framed : (bytes : List ℕ) (n : ℕ) → Long bytes n → n ≤ length (drop 4 bytes) → (sized number32).at bytes ≡ Ok (take n (drop 4 bytes), drop n (drop 4 bytes))
unfolding number32
framed bytes n k enough =
    let a : ltb (length bytes) 4 ≡ false = le-ltb _ _ k.long in
    let b : ltb (length (drop 4 bytes)) (from_be_bytes w32 (take 4 bytes)) ≡ false = subst (λ (m : ℕ). ltb (length (drop 4 bytes)) m ≡ false) k.is (le-ltb _ _ enough) in
    rw (a, b, k.is) refl

right_whole : (at n : ℕ) (bytes : List ℕ) (r : Result Frame ℕ) → Long bytes n → n ≤ length (drop 4 bytes) → whole_frame (take n (drop 4 bytes)) ≡ r → LooksRight bytes (look_whole at n r)
right_whole at n bytes (Err left) k enough e = tt
right_whole at n bytes (Ok f) k enough e =
    let w = whole_takes (take n (drop 4 bytes)) f (IsBytes-take n (drop 4 bytes) (IsBytes-drop 4 bytes k.fits)) e in
    let t = (sized_law number32_law).takes bytes (take n (drop 4 bytes), drop n (drop 4 bytes)) k.fits (framed bytes n k enough) in
    let size : length (take n (drop 4 bytes)) ≡ n = length-take-le n (drop 4 bytes) enough in
    let size' : length (payload.spell f) ≡ n = ap length (sym w.0) ∙ size in
    let len : length (frame_bytes f) ≡ 4 + n = length-sized (payload.spell f) ∙ ap (λ (m : ℕ). 4 + m) size' in
    let rest : drop n (drop 4 bytes) ≡ drop (4 + n) bytes = drop-drop n 4 bytes in
    let parts : bytes ≡ frame_bytes f ++ drop (4 + n) bytes = t.0.parts ∙ ap (λ (p : List ℕ). (sized number32).spell p ++ drop n (drop 4 bytes)) w.0 ∙ ap (λ (r : List ℕ). frame_bytes f ++ r) rest in
    let all : length bytes ≡ length (frame_bytes f) + length (drop (4 + n) bytes) = ap length parts ∙ length-append (frame_bytes f) (drop (4 + n) bytes) in
    ((w.1, omega (arith, size', k.small)), sym len, omega arith, omega (arith, len, all), parts)

right_enough : (at n : ℕ) (bytes : List ℕ) (b : Bool) → Long bytes n → ltb (length (drop 4 bytes)) n ≡ b → LooksRight bytes (cond b More (look_whole at n (whole_frame (take n (drop 4 bytes)))))
right_enough at n bytes true k e = tt
right_enough at n bytes false k e = right_whole at n bytes (whole_frame (take n (drop 4 bytes))) k (ltb-false _ _ e) refl

right_fields : (at n : ℕ) (bytes rest : List ℕ) (b : ℕ) (found : Option Kind) → rest ≡ drop 4 bytes → Long bytes n → LooksRight bytes (look_fields at n rest b found)
right_fields at n bytes rest b None is k = tt
right_fields at n bytes rest b (Some kind) is k =
    subst (λ (r : List ℕ). LooksRight bytes (cond (ltb (length r) n) More (look_whole at n (whole_frame (take n r))))) (sym is) (right_enough at n bytes (ltb (length (drop 4 bytes)) n) k refl)

right_kind : (at n : ℕ) (bytes rest : List ℕ) → rest ≡ drop 4 bytes → Long bytes n → LooksRight bytes (look_kind at n rest)
right_kind at n bytes [] is k = tt
right_kind at n bytes (b ∷ rest) is k = right_fields at n bytes (b ∷ rest) b (kind_of b) is k

right_small : (at n : ℕ) (bytes : List ℕ) (b : Bool) (bad : Found) → LooksRight bytes bad → IsBytes bytes → 4 ≤ length bytes → n ≡ from_be_bytes w32 (take 4 bytes) → ltb most_payload n ≡ b → LooksRight bytes (cond b bad (look_kind at n (drop 4 bytes)))
right_small at n bytes true bad refused fits long is e = refused
right_small at n bytes false bad refused fits long is e = right_kind at n bytes (drop 4 bytes) refl (record { fits = fits; long = long; is = is; small = ltb-false _ _ e })

either : (bytes : List ℕ) (b : Bool) (x y : Found) → LooksRight bytes x → LooksRight bytes y → LooksRight bytes (cond b x y)
either bytes true x y p q = p
either bytes false x y p q = q

right_length : (at n : ℕ) (bytes : List ℕ) → IsBytes bytes → 4 ≤ length bytes → n ≡ from_be_bytes w32 (take 4 bytes) → LooksRight bytes (look_length at n (drop 4 bytes))
right_length at n bytes fits long is = either bytes (eqb n 0) _ _ tt (right_small at n bytes (ltb most_payload n) _ tt fits long is refl)

right_long : (at : ℕ) (bytes : List ℕ) (b : Bool) → IsBytes bytes → ltb (length bytes) 4 ≡ b → LooksRight bytes (cond b More (look_length at (from_be_bytes w32 (take 4 bytes)) (drop 4 bytes)))
right_long at bytes true fits e = tt
right_long at bytes false fits e = right_length at (from_be_bytes w32 (take 4 bytes)) bytes fits (ltb-false _ _ e) refl

pub look_right : (at : ℕ) (bytes : List ℕ) → IsBytes bytes → LooksRight bytes (look at bytes)
unfolding look
look_right at bytes fits = right_long at bytes (ltb (length bytes) 4) fits refl
