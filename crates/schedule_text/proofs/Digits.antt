-- The digits at the start of a text, and the number that they spell.
use Rattle.std.proofs.Common.{◌≡◌, ℕ, zero, suc, ◌+◌, ◌-◌, ◌*◌, ◌^◌, ◌<◌, ◌≤◌, Bool, true, false, inl, inr, List, [], ◌∷◌, ◌++◌, length, arith, refl, sym, ap, ◌∙◌}
use Rattle.std.proofs.Math.Nat.{pow-suc}
use Rattle.schedule_text.specs.Numbers.{is_digit, begins_with_digit, number_from, behind_digits, billionths_from, behind_billionths}
use Rattle.schedule_text.specs.Grammar.{AreDigits, value_of}
use Rattle.schedule_text.proofs.Sums.{is_or}
use Rattle.schedule_text.proofs.MomentTexts.{weight_of, weight_next, some_weight, digit_value}

next_value : (n d p count rest : ℕ) → 10 ^ suc count ≡ p * 10 → 10 ^ count ≡ p → (n * 10 + d) * 10 ^ count + rest ≡ n * 10 ^ suc count + (d * 10 ^ count + rest)
next_value n d p count rest more is = rw (more, is) (omega arith)

number_on : (n b : ℕ) (y : List ℕ) → is_digit b ≡ true → number_from false n (b ∷ y) ≡ number_from false (n * 10 + (b - 48)) y
number_on n b y digit = rw digit refl

behind_on : (b : ℕ) (y : List ℕ) → is_digit b ≡ true → behind_digits (b ∷ y) ≡ behind_digits y
behind_on b y digit = rw digit refl

number_stays : (n : ℕ) (rest : List ℕ) → begins_with_digit rest ≡ false → (number_from false n rest ≡ n) × (behind_digits rest ≡ rest)
number_stays n [] stop = (refl, refl)
number_stays n (b ∷ rest) stop = (rw stop refl, rw stop refl)

no_more : (n : ℕ) → n ≡ n * 10 ^ 0 + 0
no_more n = omega arith

number_read : (n : ℕ) (digits rest : List ℕ) → AreDigits digits → begins_with_digit rest ≡ false
    → (number_from false n (digits ++ rest) ≡ n * 10 ^ length digits + value_of digits) × (behind_digits (digits ++ rest) ≡ rest)
number_read n [] rest are stop = let same = number_stays n rest stop in (same.0 ∙ no_more n, same.1)
number_read n (b ∷ digits) rest are stop =
    let on = number_read (n * 10 + (b - 48)) digits rest are.1 stop in
    (number_on n b (digits ++ rest) are.0 ∙ on.0 ∙ next_value n (b - 48) (10 ^ length digits) (length digits) (value_of digits) (pow-suc 10 (length digits)) refl, behind_on b (digits ++ rest) are.0 ∙ on.1)

from_nothing : (p value : ℕ) → 0 * p + value ≡ value
from_nothing p value = omega arith

-- the number of the digits at the start, and what is behind them
pub whole_read : (digits rest : List ℕ) → AreDigits digits → begins_with_digit rest ≡ false → (number_from false 0 (digits ++ rest) ≡ value_of digits) × (behind_digits (digits ++ rest) ≡ rest)
whole_read digits rest are stop =
    let read = number_read 0 digits rest are stop in
    (read.0 ∙ from_nothing (10 ^ length digits) (value_of digits), read.1)

-- every text is digits and then something else
pub record Split (text : List ℕ) : Type 0 where
  pub digits : List ℕ
  pub rest : List ℕ
  pub are_digits : AreDigits digits
  pub stops : begins_with_digit rest ≡ false
  pub text_is : text ≡ digits ++ rest

pub split : (text : List ℕ) → Split text
split [] = record { digits = []; rest = []; are_digits = tt; stops = refl; text_is = refl }
split (b ∷ bs) = elim (is_or (is_digit b)) [
  | inl digit ↦
      let more = split bs in
      record { digits = b ∷ more.digits; rest = more.rest; are_digits = (digit, more.are_digits); stops = more.stops; text_is = ap (λ (t : List ℕ). b ∷ t) more.text_is }
  | inr other ↦ record { digits = []; rest = b ∷ bs; are_digits = tt; stops = other; text_is = refl }
]

pub begins : (digits rest : List ℕ) → AreDigits digits → 0 < length digits → begins_with_digit (digits ++ rest) ≡ true
begins [] rest are some = absurd (omega arith)
begins (b ∷ digits) rest are some = are.0

pub some_digits : (digits rest : List ℕ) → begins_with_digit rest ≡ false → begins_with_digit (digits ++ rest) ≡ true → 0 < length digits
some_digits [] rest stop there = absurd (let no : true ≡ false = sym there ∙ stop in cc)
some_digits (b ∷ digits) rest stop there = omega arith

-- ---- digits behind a point

stays : (weight n : ℕ) (rest : List ℕ) → begins_with_digit rest ≡ false → (billionths_from weight n rest ≡ n) × (behind_billionths weight rest ≡ rest)
stays weight n [] stop = (refl, refl)
stays weight n (b ∷ rest) stop = (rw stop refl, rw stop refl)

last_stays : (n : ℕ) (rest : List ℕ) → (billionths_from 0 n rest ≡ n) × (behind_billionths 0 rest ≡ rest)
last_stays n [] = (refl, refl)
last_stays n (b ∷ rest) = elim (is_or (is_digit b)) [ inl digit ↦ (rw digit refl, rw digit refl) | inr other ↦ (rw other refl, rw other refl) ]

digit_on : (places n b : ℕ) (y : List ℕ) → is_digit b ≡ true → billionths_from (10 ^ places) n (b ∷ y) ≡ billionths_from (weight_of places) (n + (b - 48) * 10 ^ places) y
digit_on places n b y digit = rw (digit, some_weight places, weight_next places) refl

digit_behind : (places b : ℕ) (y : List ℕ) → is_digit b ≡ true → behind_billionths (10 ^ places) (b ∷ y) ≡ behind_billionths (weight_of places) y
digit_behind places b y digit = rw (digit, some_weight places, weight_next places) refl

no_value : (n x : ℕ) → n ≡ n + 0 * x
no_value n x = omega arith

-- a text is at most that many digits, which count in billionths, and then something else
pub record Billionths (places n : ℕ) (text : List ℕ) : Type 0 where
  pub digits : List ℕ
  pub rest : List ℕ
  pub are_digits : AreDigits digits
  pub few : length digits ≤ places
  pub text_is : text ≡ digits ++ rest
  pub value : billionths_from (weight_of places) n text ≡ n + value_of digits * 10 ^ (places - length digits)
  pub behind : behind_billionths (weight_of places) text ≡ rest
  pub some : begins_with_digit text ≡ true → 0 < places → 0 < length digits

no_billionths : (places n : ℕ) (text : List ℕ) → (billionths_from (weight_of places) n text ≡ n) × (behind_billionths (weight_of places) text ≡ text) → (begins_with_digit text ≡ true → 0 < places → 0 < 0) → Billionths places n text
no_billionths places n text same none = record { digits = []; rest = text; are_digits = tt; few = omega arith; text_is = refl; value = same.0 ∙ no_value n (10 ^ (places - 0)); behind = same.1; some = none }

not_there : (b : Bool) → b ≡ false → b ≡ true → ⊥
not_there b not_so so = let both : true ≡ false = sym so ∙ not_so in cc

pub billionths : (places n : ℕ) (text : List ℕ) → Billionths places n text
billionths places n [] = no_billionths places n [] (refl, refl) (λ there few. absurd (not_there false refl there))
billionths zero n (b ∷ bs) = no_billionths 0 n (b ∷ bs) (last_stays n (b ∷ bs)) (λ there few. few)
billionths (suc places) n (b ∷ bs) = elim (is_or (is_digit b)) [
  | inl digit ↦
      let more = billionths places (n + (b - 48) * 10 ^ places) bs in
      record {
        digits = b ∷ more.digits;
        rest = more.rest;
        are_digits = (digit, more.are_digits);
        few = omega (arith, more.few);
        text_is = ap (λ (t : List ℕ). b ∷ t) more.text_is;
        value = digit_on places n b bs digit ∙ more.value ∙ digit_value 0 places n (b - 48) (length more.digits) (value_of more.digits) more.few;
        behind = digit_behind places b bs digit ∙ more.behind;
        some = λ there few. omega arith;
      }
  | inr other ↦ no_billionths (suc places) n (b ∷ bs) (stays (10 ^ places) n (b ∷ bs) other) (λ there few. absurd (not_there (is_digit b) other there))
]

pub digits_read : (places n : ℕ) (digits rest : List ℕ) → AreDigits digits → length digits ≤ places → begins_with_digit rest ≡ false
    → (billionths_from (weight_of places) n (digits ++ rest) ≡ n + value_of digits * 10 ^ (places - length digits)) × (behind_billionths (weight_of places) (digits ++ rest) ≡ rest)
digits_read places n [] rest are few stop =
    let same = stays (weight_of places) n rest stop in
    (same.0 ∙ no_value n (10 ^ (places - 0)), same.1)
digits_read zero n (b ∷ digits) rest are few stop = absurd (omega arith)
digits_read (suc places) n (b ∷ digits) rest are few stop =
    let on = digits_read places (n + (b - 48) * 10 ^ places) digits rest are.1 (omega arith) stop in
    (digit_on places n b (digits ++ rest) are.0 ∙ on.0 ∙ digit_value 0 places n (b - 48) (length digits) (value_of digits) (omega arith), digit_behind places b (digits ++ rest) are.0 ∙ on.1)
