-- The number at the head of a text whose first bytes are a decimal.
use Rattle.std.proofs.Common.{◌≡◌, ℕ, suc, ◌+◌, ◌≤◌, ◌==◌, ◌&&◌, ◌||◌, not, nat_le, Bool, true, false, List, [], ◌∷◌, ◌++◌, length, get_or, drop, arith, append-nil, Some, None, if◌then◌else◌, inl, inr, refl, ap, sym, ◌∙◌, eq-eqb}
use Rattle.std.specs.Prelude.{take_while}
use Rattle.std.specs.List.{list_all}
use Rattle.std.proofs.lemmas.Bool.{eqb-true, le-leb}
use Rattle.std.proofs.lemmas.Bool.Decides.{leb_tells}
use Rattle.lists_and_limits.specs.Decimals.{is_digit, is_decimal, is_unpadded, decimal_value, number_of}
use Rattle.actor_names.specs.Numerals.{numeral_of, number_fault}

both : (a b : Bool) → (a && b) ≡ true → (a ≡ true) × (b ≡ true)
both true b is = (refl, is)
both false b is = cc

one_more : (n : ℕ) → 1 + n ≡ suc n
one_more n = omega arith

-- a run of bytes that pass a test ends at the first byte that fails it
run-append : (p : ℕ → Bool) (text rest : List ℕ) → list_all p text ≡ true → p (get_or rest 0 0) ≡ false → take_while p (text ++ rest) ≡ text
run-append p [] [] all ends = refl
run-append p [] (b ∷ bs) all ends = rw ends refl
run-append p (b ∷ bs) rest all ends =
    let parts = both (p b) (list_all p bs) all in
    rw (parts.0, one_more) (ap (λ (xs : List ℕ). b ∷ xs) (run-append p bs rest parts.1 ends))

no_more : (text : List ℕ) → (length text == 0) ≡ true → text ≡ []
no_more [] is = refl
no_more (b ∷ bs) is = absurd (let none = eqb-true (suc (length bs)) 0 is in omega arith)

-- by cases: whether the first digit is a `0`
head-append : (b : ℕ) (bs rest : List ℕ) (padded : Bool) → (not padded || (length bs == 0)) ≡ true → take_while is_digit (b ∷ (bs ++ rest)) ≡ b ∷ bs → (if padded then b ∷ [] else take_while is_digit (b ∷ (bs ++ rest))) ≡ b ∷ bs
head-append b bs rest true short run = ap (λ (xs : List ℕ). b ∷ xs) (sym (no_more bs short))
head-append b bs rest false short run = run

-- a decimal is the number at the head of a text that goes on with a byte other than a digit
pub numeral_of-append : (text rest : List ℕ) → is_decimal text ≡ true → is_digit (get_or rest 0 0) ≡ false → numeral_of (text ++ rest) ≡ text
numeral_of-append [] rest is ends = cc
numeral_of-append (b ∷ bs) rest is ends =
    let parts = both (is_unpadded (b ∷ bs)) (list_all is_digit (b ∷ bs)) is in
    head-append b bs rest (b == 48) parts.0 (run-append is_digit (b ∷ bs) rest parts.1 ends)

read_parts : (most n value : ℕ) (is : Bool) → (if is && nat_le value most then Some value else None) ≡ Some n → (is ≡ true) × (n ≤ most)
read_parts most n value true read = elim (leb_tells value most) [
  | inl low ↦ let some : Some value ≡ Some n = (rw low.0 at read) in let same : value ≡ n = cc in (refl, omega arith)
  | inr high ↦ let none : None ≡ Some n = (rw high.0 at read) in cc
]
read_parts most n value false read = cc

-- a text that reads as a number is a decimal, and the number is in its range
pub number_parts : (most n : ℕ) (text : List ℕ) → number_of most text ≡ Some n → (is_decimal text ≡ true) × (n ≤ most)
number_parts most n text read = read_parts most n (decimal_value text) (is_decimal text) read

-- a text that reads as a number in its range has no fault
pub number_fault-whole : (low most n : ℕ) (digits : List ℕ) → number_of most digits ≡ Some n → low ≤ n → number_fault low most digits ≡ None
number_fault-whole low most n digits read least =
    let numeral : numeral_of digits ≡ digits = ap numeral_of (sym (append-nil digits)) ∙ numeral_of-append digits [] (number_parts most n digits read).0 refl in
    rw (numeral, read, le-leb low n least, eq-eqb (length digits) (length digits) refl) refl

pub drop_front : (xs ys : List ℕ) → drop (length xs) (xs ++ ys) ≡ ys
drop_front [] ys = refl
drop_front (x ∷ xs) ys = drop_front xs ys
