-- A text cut at its first byte of a kind.
use Rattle.std.proofs.Common.{◌≡◌, ℕ, ◌+◌, ◌<◌, ◌≤◌, ◌==◌, Bool, true, false, List, [], ◌∷◌, length, take, drop, add-one, arith, Some, None, if◌then◌else◌, refl, ap, ◌∙◌}
use Rattle.actors_api.specs.Paths.{before, behind}

-- by cases: whether the first byte is the one
cut_cons : (stop b : ℕ) (bs : List ℕ) (test : Bool) → take (length (before stop bs)) bs ≡ before stop bs → take (length (if test then [] else b ∷ before stop bs)) (b ∷ bs) ≡ (if test then [] else b ∷ before stop bs)
cut_cons stop b bs true rest = refl
cut_cons stop b bs false rest = ap (λ xs. b ∷ xs) rest

-- the first bytes, as many as come before the byte, are the bytes before it
pub take_before : (stop : ℕ) (text : List ℕ) → take (length (before stop text)) text ≡ before stop text
take_before stop [] = refl
take_before stop (b ∷ bs) = cut_cons stop b bs (b == stop) (take_before stop bs)

rest_cons : (stop b : ℕ) (bs : List ℕ) (test : Bool) → (length (before stop bs) < length bs → behind stop bs ≡ Some (drop (length (before stop bs) + 1) bs)) → length (if test then [] else b ∷ before stop bs) < length (b ∷ bs) → (if test then Some bs else behind stop bs) ≡ Some (drop (length (if test then [] else b ∷ before stop bs) + 1) (b ∷ bs))
rest_cons stop b bs true rest below = refl
rest_cons stop b bs false rest below = rest (omega arith) ∙ rw (add-one, add-one) refl

-- the text has the byte if those before it are fewer than all
pub behind_some : (stop : ℕ) (text : List ℕ) → length (before stop text) < length text → behind stop text ≡ Some (drop (length (before stop text) + 1) text)
behind_some stop [] below = absurd (omega arith)
behind_some stop (b ∷ bs) below = rest_cons stop b bs (b == stop) (behind_some stop bs) below

none_cons : (stop b : ℕ) (bs : List ℕ) (test : Bool) → (length bs ≤ length (before stop bs) → behind stop bs ≡ None) → length (b ∷ bs) ≤ length (if test then [] else b ∷ before stop bs) → (if test then Some bs else behind stop bs) ≡ None
none_cons stop b bs true rest past = absurd (omega arith)
none_cons stop b bs false rest past = rest (omega arith)

pub behind_none : (stop : ℕ) (text : List ℕ) → length text ≤ length (before stop text) → behind stop text ≡ None
behind_none stop [] past = refl
behind_none stop (b ∷ bs) past = none_cons stop b bs (b == stop) (behind_none stop bs) past

all_cons : (stop b : ℕ) (bs : List ℕ) (test : Bool) → (length bs ≤ length (before stop bs) → before stop bs ≡ bs) → length (b ∷ bs) ≤ length (if test then [] else b ∷ before stop bs) → (if test then [] else b ∷ before stop bs) ≡ b ∷ bs
all_cons stop b bs true rest past = absurd (omega arith)
all_cons stop b bs false rest past = ap (λ xs. b ∷ xs) (rest (omega arith))

-- without the byte, all bytes come before it
pub before_all : (stop : ℕ) (text : List ℕ) → length text ≤ length (before stop text) → before stop text ≡ text
before_all stop [] past = refl
before_all stop (b ∷ bs) past = all_cons stop b bs (b == stop) (before_all stop bs) past
