-- A decimal text is what std prints for its number, and the other way round.
use Rattle.std.proofs.Common.{◌≡◌, ℕ, ◌+◌, ◌^◌, ◌<◌, ◌≤◌, ◌&&◌, nat_le, Bool, true, false, List, [], ◌∷◌, map, length, get_or, arith, lit≤, lit<, Some, None, if◌then◌else◌, refl, ap, sym, inl, inr, ◌∙◌}
use Rattle.std.specs.Prelude.{decimal}
use Rattle.std.specs.Int.Digits.{digits_of}
use Rattle.std.specs.List.{list_all}
use Rattle.std.specs.Int.{IsInRange}
use Rattle.std.proofs.lemmas.Fmt.{decimal-digits_of, digits_decimal, digits_value-decimal, decimal-digits_value}
use Rattle.std.proofs.lemmas.Int.Digits.{first_digits_of}
use Rattle.std.proofs.lemmas.Str.Parse.{IsNumeralModel, IsDigitsTest, FoldsDigits, numerals_by_fold}
use Rattle.std.proofs.lemmas.Bool.Decides.{leb_tells, nat_tests}
use Rattle.std.proofs.lemmas.Bool.{le-leb, cases_lt}
use Rattle.lists_and_limits.specs.Decimals.{is_digit, is_decimal, is_unpadded, decimal_value, number_of}
use Rattle.lists_and_limits.proofs.Digits.{value_from}

-- if `a && b` holds, both sides hold
both : (a b : Bool) → (a && b) ≡ true → (a ≡ true) × (b ≡ true)
both true b is = (refl, is)
both false b is = cc

digit_range : (b : ℕ) → is_digit b ≡ true → IsInRange 48 57 b
digit_range b is = grind (arith, nat_tests)

in_range : (b : ℕ) → IsInRange 48 57 b → is_digit b ≡ true
in_range b range = grind (arith, nat_tests)

-- a text of only digits
abbrev pub HasDigitsAlone : List ℕ → Type 0
HasDigitsAlone text = list_all is_digit text ≡ true

tells_digits : IsDigitsTest HasDigitsAlone
tells_digits = record {
  empty = refl;
  parts = λ b bs all. (digit_range b (both _ _ all).0, (both _ _ all).1);
  more = λ b bs range all. rw (in_range b range, all) refl;
}

folds_digits : FoldsDigits value_from
folds_digits = record { empty = λ n. refl; more = λ n b bs range. refl }

pub decimal_model : IsNumeralModel HasDigitsAlone decimal_value
decimal_model = numerals_by_fold HasDigitsAlone tells_digits value_from folds_digits

single : (text : List ℕ) → is_unpadded text ≡ true → (0 < length text) × (get_or text 0 0 ≡ 48 → length text ≡ 1)
single [] is = cc
single (b ∷ bs) is = (omega arith, λ padded. grind (arith, nat_tests))

-- a decimal is what is printed for its number
pub decimal-decimal_value : (text : List ℕ) → is_decimal text ≡ true → decimal_value text < 2 ^ 64 → decimal (decimal_value text) ≡ text
decimal-decimal_value text is low =
    let parts = both (is_unpadded text) _ is in
    let first = single text parts.0 in
    decimal-digits_value decimal_model text parts.1 first.0 first.1 low

read_parts : (most n value : ℕ) (is : Bool) → (if is && nat_le value most then Some value else None) ≡ Some n → (is ≡ true) × (value ≡ n) × (value ≤ most)
read_parts most n value true read = elim (leb_tells value most) [
  | inl low ↦ let some : Some value ≡ Some n = (rw low.0 at read) in (refl, cc, low.1)
  | inr high ↦ let none : None ≡ Some n = (rw high.0 at read) in cc
]
read_parts most n value false read = cc

-- a text that reads as a number is what is printed for that number
pub decimal-number_of : (most n : ℕ) (text : List ℕ) → most < 2 ^ 64 → number_of most text ≡ Some n → text ≡ decimal n
decimal-number_of most n text fits read =
    let parts : (is_decimal text ≡ true) × (decimal_value text ≡ n) × (decimal_value text ≤ most) = read_parts most n (decimal_value text) (is_decimal text) read in
    sym (decimal-decimal_value text parts.0 (omega arith)) ∙ ap decimal parts.1

unpadded : (text : List ℕ) → 48 < get_or text 0 0 → is_unpadded text ≡ true
unpadded [] some = absurd (omega arith)
unpadded (b ∷ bs) some = grind (arith, nat_tests)

first_byte : (digits : List ℕ) → 0 < get_or digits 0 0 → 48 < get_or (map (λ d. 48 + d) digits) 0 0
first_byte [] some = absurd (omega arith)
first_byte (d ∷ ds) some = omega arith

zero_text : decimal 0 ≡ 48 ∷ []
zero_text = decimal-digits_value decimal_model (48 ∷ []) refl (omega arith) (λ _. refl) (lit< tt)

is_unpadded-decimal : (n : ℕ) → n < 2 ^ 64 → is_unpadded (decimal n) ≡ true
is_unpadded-decimal n fits = elim (cases_lt 0 n) [
  | inl some ↦ rw (decimal-digits_of n some fits) (unpadded (map (λ d. 48 + d) (digits_of 10 n)) (first_byte (digits_of 10 n) (first_digits_of 10 n (lit≤ tt) some)))
  | inr none ↦ let nothing : n ≡ 0 = omega arith in rw (nothing, zero_text) refl
]

-- what is printed for a number reads as that number
pub number_of-decimal : (most n : ℕ) → n ≤ most → n < 2 ^ 64 → number_of most (decimal n) ≡ Some n
number_of-decimal most n low fits =
    let all : list_all is_digit (decimal n) ≡ true = digits_decimal decimal_model n fits in
    let value : decimal_value (decimal n) ≡ n = digits_value-decimal decimal_model n fits in
    rw (is_unpadded-decimal n fits, all, value, le-leb n most low) refl
