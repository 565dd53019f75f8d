-- Fields of durations of ISO 8601 are read as their numbers.
use Rattle.std.proofs.Common.{◌≡◌, ℕ, ◌<◌, ◌==◌, ◌&&◌, ◌||◌, Bool, true, false, inl, inr, List, [], ◌∷◌, ◌++◌, length, length-append, arith, refl, sym, ap, ◌∙◌, append_assoc}
use Rattle.std.proofs.lemmas.Bool.{eqb-true, eq-eqb}
use Rattle.schedule_text.specs.Numbers.{is_digit, begins_with_digit, number_from, behind_digits}
use Rattle.schedule_text.specs.GoDurations.{behind_first}
use Rattle.schedule_text.specs.IsoDurations.{begins_with, has_field, field_number, behind_field}
use Rattle.schedule_text.specs.Grammar.{AreDigits, value_of}
use Rattle.schedule_text.specs.IsoGrammar.{FieldText, NoField, Field}
use Rattle.schedule_text.proofs.Sums.{is_or}
use Rattle.schedule_text.proofs.Digits.{whole_read, Split, split, begins, some_digits}

-- ---- tests

pub and_first : (a b : Bool) → (a && b) ≡ true → a ≡ true
and_first true b both = refl
and_first false b both = both

pub and_second : (a b : Bool) → (a && b) ≡ true → b ≡ true
and_second true b both = both
and_second false b both = absurd (let no : false ≡ true = both in cc)

pub and_false : (a b : Bool) → b ≡ false → (a && b) ≡ false
and_false true b is = is
and_false false b is = refl

pub and_both : (a b : Bool) → a ≡ true → b ≡ true → (a && b) ≡ true
and_both a b first second = rw (first, second) refl

pub or_first : (a b : Bool) → a ≡ true → (a || b) ≡ true
or_first a b is = rw is refl

pub or_second : (a b : Bool) → b ≡ true → (a || b) ≡ true
or_second true b is = refl
or_second false b is = is

pub true_false : (a : Bool) → a ≡ true → a ≡ false → ⊥
true_false a so not_so = let both : true ≡ false = sym so ∙ not_so in cc

-- one of two parts is there if their text has a byte
pub either_there : (a b : Bool) (x z : List ℕ) → (0 < length x → a ≡ true) → (0 < length z → b ≡ true) → 0 < length (x ++ z) → (a || b) ≡ true
either_there a b [] z first rest some = or_second a b (rest some)
either_there a b (c ∷ x) z first rest some = or_first a b (first (omega arith))

-- and a text has a byte if one of two parts is there
pub either_some : (a b : Bool) (x z : List ℕ) → (a ≡ true → 0 < length x) → (b ≡ true → 0 < length z) → (a || b) ≡ true → 0 < length (x ++ z)
either_some true b x z first rest some = let there = first refl in omega (arith, length-append x z)
either_some false b x z first rest some = let there = rest some in omega (arith, length-append x z)

-- ---- a text is a field and what is behind it

pub begins_is : (letter : ℕ) (text : List ℕ) → begins_with letter text ≡ true → (rest : List ℕ) × (text ≡ letter ∷ rest)
begins_is letter [] is = absurd (let no : false ≡ true = is in cc)
begins_is letter (b ∷ bs) is = (bs, ap (λ (c : ℕ). c ∷ bs) (eqb-true b letter is))

number_there : (letter : ℕ) (text : List ℕ) → has_field letter text ≡ true → field_number false letter text ≡ number_from false 0 text
number_there letter text there = rw there refl

behind_there : (letter : ℕ) (text : List ℕ) → has_field letter text ≡ true → behind_field letter text ≡ behind_first (behind_digits text)
behind_there letter text there = rw there refl

pub number_none : (letter : ℕ) (text : List ℕ) → has_field letter text ≡ false → field_number false letter text ≡ 0
number_none letter text none = rw none refl

pub behind_none : (letter : ℕ) (text : List ℕ) → has_field letter text ≡ false → behind_field letter text ≡ text
behind_none letter text none = rw none refl

pub record FieldRead (letter : ℕ) (text : List ℕ) : Type 0 where
  pub s : List ℕ
  pub is_field : FieldText letter (field_number false letter text) s
  pub text_is : text ≡ s ++ behind_field letter text
  pub some : has_field letter text ≡ true → 0 < length s

field_there : (letter : ℕ) (text : List ℕ) → has_field letter text ≡ true → Split text → FieldRead letter text
field_there letter text there parts =
    let read = whole_read parts.digits parts.rest parts.are_digits parts.stops in
    let behind : behind_digits text ≡ parts.rest = ap behind_digits parts.text_is ∙ read.1 in
    let digit : begins_with_digit (parts.digits ++ parts.rest) ≡ true = ap begins_with_digit (sym parts.text_is) ∙ and_first (begins_with_digit text) (begins_with letter (behind_digits text)) there in
    let some = some_digits parts.digits parts.rest parts.stops digit in
    let first = begins_is letter parts.rest (ap (begins_with letter) (sym behind) ∙ and_second (begins_with_digit text) (begins_with letter (behind_digits text)) there) in
    let rest : behind_field letter text ≡ first.0 = behind_there letter text there ∙ ap behind_first (behind ∙ first.1) in
    record {
      s = parts.digits ++ letter ∷ [];
      is_field = Field parts.digits parts.are_digits some refl (number_there letter text there ∙ ap (λ (t : List ℕ). number_from false 0 t) parts.text_is ∙ read.0);
      text_is = parts.text_is ∙ ap (λ (t : List ℕ). parts.digits ++ t) first.1 ∙ sym (append_assoc parts.digits (letter ∷ []) first.0) ∙ ap (λ (t : List ℕ). (parts.digits ++ letter ∷ []) ++ t) (sym rest);
      some = λ so. omega (arith, length-append parts.digits (letter ∷ []));
    }

pub field_read : (letter : ℕ) (text : List ℕ) → FieldRead letter text
field_read letter text = elim (is_or (has_field letter text)) [
  | inl there ↦ field_there letter text there (split text)
  | inr none ↦
      record {
        s = [];
        is_field = NoField refl (number_none letter text none);
        text_is = sym (behind_none letter text none);
        some = λ there. absurd (true_false (has_field letter text) there none);
      }
]

-- ---- a field is read, whatever follows

same_letter : (letter : ℕ) → (letter == letter) ≡ true
same_letter letter = eq-eqb letter letter refl

pub record FieldIs (letter n : ℕ) (s rest : List ℕ) : Type 0 where
  pub number : field_number false letter (s ++ rest) ≡ n
  pub behind : behind_field letter (s ++ rest) ≡ rest
  pub there : 0 < length s → has_field letter (s ++ rest) ≡ true

behind_letter : (other : ℕ) (digits rest : List ℕ) → is_digit other ≡ false → AreDigits digits → (number_from false 0 ((digits ++ other ∷ []) ++ rest) ≡ value_of digits) × (behind_digits ((digits ++ other ∷ []) ++ rest) ≡ other ∷ rest)
behind_letter other digits rest no_digit are =
    let read = whole_read digits (other ∷ rest) are no_digit in
    let whole = append_assoc digits (other ∷ []) rest in
    (ap (λ (t : List ℕ). number_from false 0 t) whole ∙ read.0, ap behind_digits whole ∙ read.1)

digit_first : (other : ℕ) (digits rest : List ℕ) → AreDigits digits → 0 < length digits → begins_with_digit ((digits ++ other ∷ []) ++ rest) ≡ true
digit_first other digits rest are some = ap begins_with_digit (append_assoc digits (other ∷ []) rest) ∙ begins digits (other ∷ rest) are some

has_it : (letter : ℕ) (text rest : List ℕ) → begins_with_digit text ≡ true → behind_digits text ≡ letter ∷ rest → has_field letter text ≡ true
has_it letter text rest digit behind = rw (digit, behind) (same_letter letter)

has_other : (letter other : ℕ) (text rest : List ℕ) → (other == letter) ≡ false → behind_digits text ≡ other ∷ rest → has_field letter text ≡ false
has_other letter other text rest differ behind = and_false (begins_with_digit text) (begins_with letter (behind_digits text)) (ap (begins_with letter) behind ∙ differ)

pub field_is_there : (letter n : ℕ) (digits rest : List ℕ) → is_digit letter ≡ false → AreDigits digits → 0 < length digits → n ≡ value_of digits → FieldIs letter n (digits ++ letter ∷ []) rest
field_is_there letter n digits rest no_digit are some value =
    let text : List ℕ = (digits ++ letter ∷ []) ++ rest in
    let read = behind_letter letter digits rest no_digit are in
    let there_is = has_it letter text rest (digit_first letter digits rest are some) read.1 in
    record { number = number_there letter text there_is ∙ read.0 ∙ sym value; behind = behind_there letter text there_is ∙ ap behind_first read.1; there = λ some. there_is }

pub field_is : (letter n : ℕ) (s rest : List ℕ) → is_digit letter ≡ false → FieldText letter n s → has_field letter rest ≡ false → FieldIs letter n s rest
field_is letter n s rest no_digit (NoField is value) none =
    rw is (record { number = number_none letter rest none ∙ sym value; behind = behind_none letter rest none; there = λ some. absurd (omega arith) })
field_is letter n s rest no_digit (Field digits are some is value) none = rw is (field_is_there letter n digits rest no_digit are some value)

-- no field of a letter stands where one of another letter may
pub no_field : (letter other n : ℕ) (s rest : List ℕ) → (other == letter) ≡ false → is_digit other ≡ false → FieldText other n s → has_field letter rest ≡ false → has_field letter (s ++ rest) ≡ false
no_field letter other n s rest differ no_digit (NoField is value) none = rw is none
no_field letter other n s rest differ no_digit (Field digits are some is value) none =
    rw is (has_other letter other ((digits ++ other ∷ []) ++ rest) rest differ (behind_letter other digits rest no_digit are).1)
