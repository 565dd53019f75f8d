-- The loop that reads digits up to a bound.
use Rattle.std.proofs.Common.{◌≡◌, ℕ, ◌+◌, ◌-◌, ◌*◌, ◌<◌, ◌≤◌, ◌&&◌, nat_le, Bool, true, false, List, [], ◌∷◌, length, get_or, drop, drop-cons, suc, arith, Option, Some, None, if◌then◌else◌, refl, sym, inl, inr, ◌∙◌}
use Rattle.std.specs.Prelude.{fold}
use Rattle.std.specs.List.{list_all}
use Rattle.std.proofs.lemmas.Grind.{common_steps}
use Rattle.std.proofs.lemmas.Bool.Decides.{leb_tells}
use Rattle.std.proofs.lemmas.Bool.{le-leb, leb-true, leb-false}
use Rattle.lists_and_limits.specs.Decimals.{is_digit, digits_number}

-- the number with one more digit
abbrev pub with_digit : ℕ → ℕ → ℕ
with_digit n b = n * 10 + (b - 48)

-- the number after all remaining digits, from the number so far
abbrev pub value_from : ℕ → List ℕ → ℕ
value_from n text = fold with_digit n text

-- what the loop returns from here on
abbrev pub digits_from : ℕ → ℕ → List ℕ → Option ℕ
digits_from most n [] = Some n
digits_from most n (b ∷ bs) = if is_digit b && nat_le (with_digit n b) most then digits_from most (with_digit n b) bs else None

pub value_from-ge : (n : ℕ) (text : List ℕ) → n ≤ value_from n text
value_from-ge n [] = omega arith
value_from-ge n (b ∷ bs) = omega (arith, value_from-ge (with_digit n b) bs)

-- a number above the bound stays above it with more digits
above : (most n : ℕ) (text : List ℕ) (all : Bool) → nat_le n most ≡ false → (if all && nat_le (value_from n text) most then Some (value_from n text) else None) ≡ None
above most n text false over = refl
above most n text true over = elim (leb_tells (value_from n text) most) [
  | inl low ↦ absurd (omega (arith, value_from-ge n text, leb-false n most over))
  | inr high ↦ rw high.0
]

step_case : (most n : ℕ) (bs : List ℕ) (low all : Bool) → nat_le n most ≡ low → list_all is_digit bs ≡ all → (n ≤ most → digits_from most n bs ≡ (if all && nat_le (value_from n bs) most then Some (value_from n bs) else None)) → (if low then digits_from most n bs else None) ≡ (if all && nat_le (value_from n bs) most then Some (value_from n bs) else None)
step_case most n bs true all is same rest = rest (leb-true n most is)
step_case most n bs false all is same rest = sym (above most n bs all is)

digit_case : (most n b : ℕ) (bs : List ℕ) (digit : Bool) → (n ≤ most → digits_from most n bs ≡ (if list_all is_digit bs && nat_le (value_from n bs) most then Some (value_from n bs) else None)) → (if digit && nat_le n most then digits_from most n bs else None) ≡ (if (digit && list_all is_digit bs) && nat_le (value_from n bs) most then Some (value_from n bs) else None)
digit_case most n b bs true rest = step_case most n bs (nat_le n most) (list_all is_digit bs) refl refl rest
digit_case most n b bs false rest = refl

pub digits_from-is : (most n : ℕ) (text : List ℕ) → n ≤ most → digits_from most n text ≡ (if list_all is_digit text && nat_le (value_from n text) most then Some (value_from n text) else None)
digits_from-is most n [] low = rw (le-leb n most low)
digits_from-is most n (b ∷ bs) low = digit_case most (with_digit n b) b bs (is_digit b) (digits_from-is most (with_digit n b) bs)

pub digits_number-walk : (most : ℕ) (text : List ℕ) → digits_from most 0 text ≡ digits_number most text
digits_number-walk most text = digits_from-is most 0 text (omega arith)

pub walk_ends : (most n i : ℕ) (text : List ℕ) → digits_from most 0 text ≡ digits_from most n (drop i text) → length text ≤ i → Some n ≡ digits_number most text
walk_ends most n i text walked past =
    let none : drop i text ≡ [] = grind (arith, common_steps) in
    sym (rw none at walked) ∙ digits_number-walk most text

stopped : (most n : ℕ) (bs : List ℕ) (b : ℕ) (test : Bool) → None ≡ (if test then Some (with_digit n b) else None) → (if test then digits_from most (with_digit n b) bs else None) ≡ None
stopped most n bs b true none = cc
stopped most n bs b false none = refl

pub walk_stops : (most n i : ℕ) (text : List ℕ) → digits_from most 0 text ≡ digits_from most n (drop i text) → i < length text → None ≡ (if is_digit (get_or text i 0) && nat_le (with_digit n (get_or text i 0)) most then Some (with_digit n (get_or text i 0)) else None) → None ≡ digits_number most text
walk_stops most n i text walked below none =
    let head = drop-cons text i 0 below in
    sym (stopped most n (drop (suc i) text) (get_or text i 0) _ none) ∙ sym (rw head at walked) ∙ digits_number-walk most text
