-- The first digits of a text.
use Rattle.std.proofs.Common.{◌≡◌, ◌≢◌, ◌≤◌, ◌<◌, ◌+◌, ◌-◌, ◌*◌, ◌==◌, ◌&&◌, ℕ, zero, suc, Bool, true, false, List, [], ◌∷◌, length, take, get_or, Some, nat_le, None, not, ◌||◌, if◌then◌else◌, add-one, refl, sym, arith}
use Rattle.std.specs.List.{list_all}
use Rattle.std.proofs.Math.Seq.{take-suc}
use Rattle.std.proofs.lemmas.Bool.{and_parts, le-leb, leb-true, ne_eqb}
use Rattle.std.proofs.lemmas.List.Folds.{list_all-append}
use Rattle.std.proofs.lemmas.List.Sums.{fold-append}
use Rattle.lists_and_limits.specs.Decimals.{is_digit, decimal_value, is_unpadded}
use Rattle.script_text.specs.Lines.{LacksByte}
use Rattle.script_text.specs.Reading.{greatest_number, number_in}

-- one more digit
pub digits_more : (text : List ℕ) (i : ℕ) → i < length text → list_all is_digit (take i text) ≡ true → is_digit (get_or text i 0) ≡ true → list_all is_digit (take (i + 1) text) ≡ true
digits_more text i below digits digit =
    rw (add-one, take-suc text i 0 below, list_all-append is_digit (take i text) (get_or text i 0 ∷ []), digits) (rw digit refl)

pub value_more : (text : List ℕ) (i : ℕ) → i < length text → decimal_value (take (i + 1) text) ≡ decimal_value (take i text) * 10 + (get_or text i 0 - 48)
value_more text i below = rw (add-one, take-suc text i 0 below, fold-append)

pub digit_range : (b : ℕ) → is_digit b ≡ true → (48 ≤ b) × (b ≤ 57)
digit_range b digit =
    let parts = and_parts (nat_le 48 b) (nat_le b 57) digit in
    (leb-true 48 b parts.0, leb-true b 57 parts.1)

-- no digit is a space
pub digits_lack_space : (xs : List ℕ) → list_all is_digit xs ≡ true → LacksByte 32 xs
digits_lack_space [] digits k below = absurd (omega arith)
digits_lack_space (b ∷ bs) digits zero below =
    let range = digit_range b (and_parts (is_digit b) (list_all is_digit bs) digits).0 in
    λ space. omega (arith, range.0)
digits_lack_space (b ∷ bs) digits (suc k) below = digits_lack_space bs (and_parts (is_digit b) (list_all is_digit bs) digits).1 k (omega arith)

unpadded : (b : ℕ) (bs : List ℕ) → (1 < length (b ∷ bs) → b ≢ 48) → is_unpadded (b ∷ bs) ≡ true
unpadded b [] other = by (b == 48)
  where
    by : (t : Bool) → (not t || true) ≡ true
    by true = refl
    by false = refl
unpadded b (c ∷ cs) other = rw (ne_eqb b 48 (other (omega arith)))

number_by : (u d l : Bool) (v n : ℕ) → u ≡ true → d ≡ true → l ≡ true → v ≡ n → (if (u && d) && l then Some v else None) ≡ Some n
number_by u d l v n eu ed el e = rw (eu, ed, el, e)

-- digits without a leading zero are a number
pub number_from_digits : (xs : List ℕ) (n : ℕ) → 0 < length xs → (1 < length xs → get_or xs 0 0 ≢ 48) → list_all is_digit xs ≡ true → n ≡ decimal_value xs → n ≤ greatest_number → number_in xs ≡ Some n
number_from_digits [] n some other digits value low = absurd (omega arith)
number_from_digits (b ∷ bs) n some other digits value low =
    number_by (is_unpadded (b ∷ bs)) (list_all is_digit (b ∷ bs)) (nat_le (decimal_value (b ∷ bs)) greatest_number) (decimal_value (b ∷ bs)) n
    (unpadded b bs other) digits (rw (← value) (le-leb n greatest_number low)) (sym value)
