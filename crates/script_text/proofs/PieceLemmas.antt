-- The pieces of a text between commas, and the tests of the types that they name.
use Rattle.std.proofs.Common.{◌≡◌, ◌≢◌, ◌<◌, ◌+◌, ◌==◌, ◌&&◌, ℕ, zero, suc, Bool, true, false, List, [], ◌∷◌, length, get_or, take, drop, nat_le, refl, arith, add-one}
use Rattle.std.specs.List.{list_any, list_all}
use Rattle.std.specs.Str.{bytes_eq}
use Rattle.std.proofs.lemmas.Bool.{eq-eqb, ne_eqb, cond_both, and_parts, leb-true, lt-leb}
use Rattle.script_text.specs.Lines.{IsFirstByte}
use Rattle.script_text.specs.ClusterWords.{pieces_of, onto_first_piece, is_type, are_different, are_types_behind, are_boot_types}
use Rattle.script_text.specs.ClusterLines.{AreBootTypes}

-- a piece ends at the first comma
pieces_at : (xs : List ℕ) (i : ℕ) → i < length xs → get_or xs i 0 ≡ 44 → ((k : ℕ) → k < i → get_or xs k 0 ≢ 44) → pieces_of xs ≡ take i xs ∷ pieces_of (drop (suc i) xs)
pieces_at [] i within here before = absurd (omega arith)
pieces_at (b ∷ bs) zero within here before = rw (eq-eqb b 44 here)
pieces_at (b ∷ bs) (suc i) within here before =
    rw (ne_eqb b 44 (before 0 (omega arith)), pieces_at bs i (omega arith) here (λ k h. before (suc k) (omega arith)))

pub pieces_split : (xs : List ℕ) (i : ℕ) → IsFirstByte 44 xs i → pieces_of xs ≡ take i xs ∷ pieces_of (drop (i + 1) xs)
pieces_split xs i f = rw add-one (pieces_at xs i f.within f.here f.before)

-- what has no comma is one piece
pub one_piece : (xs : List ℕ) → ((k : ℕ) → k < length xs → get_or xs k 0 ≢ 44) → pieces_of xs ≡ xs ∷ []
one_piece [] none = refl
one_piece (b ∷ bs) none = rw (ne_eqb b 44 (none 0 (omega arith)), one_piece bs (λ k h. none (suc k) (omega arith)))

some-onto : (b : ℕ) (pieces : List (List ℕ)) → 0 < length (onto_first_piece b pieces)
some-onto b [] = omega arith
some-onto b (piece ∷ pieces) = omega arith

some-piece : (xs : List ℕ) → 0 < length (pieces_of xs)
some-piece [] = omega arith
some-piece (b ∷ bs) =
    cond_both (b == 44) _ _ (λ (pieces : List (List ℕ)). 0 < length pieces) (λ t. omega arith) (λ f. some-onto b (pieces_of bs))

-- a text that passes the test names 1 to 32 different types
pub boot_types_sound : (text : List ℕ) → are_boot_types text ≡ true → AreBootTypes (pieces_of text)
boot_types_sound text tested =
    let parts = and_parts (list_all is_type (pieces_of text)) (are_different (pieces_of text) && nat_le (0 + length (pieces_of text)) 32) tested in
    let two = and_parts (are_different (pieces_of text)) (nat_le (0 + length (pieces_of text)) 32) parts.1 in
    let few = leb-true (0 + length (pieces_of text)) 32 two.1 in
    record { some = some-piece text; few = omega (arith, few); different = two.0 }

-- the tests of the remaining pieces, one piece after another
and-false : (t : Bool) → (t && false) ≡ false
and-false true = refl
and-false false = refl

pub types_full : (piece : List ℕ) (pieces : List (List ℕ)) → are_types_behind 32 (piece ∷ pieces) ≡ false
types_full piece pieces =
    let over : nat_le (32 + length (piece ∷ pieces)) 32 ≡ false = lt-leb (32 + length (piece ∷ pieces)) 32 (omega arith) in
    rw (over, and-false (are_different (piece ∷ pieces))) (and-false (list_all is_type (piece ∷ pieces)))

pub types_fault : (n : ℕ) (piece : List ℕ) (pieces : List (List ℕ)) → is_type piece ≡ false → are_types_behind n (piece ∷ pieces) ≡ false
types_fault n piece pieces fault = rw fault

pub types_twice : (n : ℕ) (piece : List ℕ) (pieces : List (List ℕ)) → list_any (bytes_eq piece) pieces ≡ true → are_types_behind n (piece ∷ pieces) ≡ false
types_twice n piece pieces twice = rw twice (and-false (list_all is_type (piece ∷ pieces)))

pub types_more : (n : ℕ) (piece : List ℕ) (pieces : List (List ℕ)) → is_type piece ≡ true → list_any (bytes_eq piece) pieces ≡ false → are_types_behind n (piece ∷ pieces) ≡ are_types_behind (n + 1) pieces
types_more n piece pieces kind other =
    let count : n + length (piece ∷ pieces) ≡ (n + 1) + length pieces = omega arith in
    rw (kind, other, count)
