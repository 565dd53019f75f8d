-- A term of a duration as Go writes it is read as its nanoseconds: its literal and its unit.
use Rattle.std.proofs.Common.{◌≡◌, ℕ, ◌+◌, ◌-◌, ◌*◌, ◌/◌, ◌^◌, ◌<◌, ◌==◌, ◌||◌, Bool, true, false, if◌then◌else◌, inl, inr, List, [], ◌∷◌, ◌++◌, length, length-append, arith, refl, sym, ap, ◌∙◌, subst, append_assoc, append-nil, Result, Ok, Err}
use Rattle.std.proofs.lemmas.Bool.{eqb-true, ne_eqb}
use Rattle.schedule_text.specs.Numbers.{is_digit, begins_with_digit, billionths_from, behind_billionths, first_weight}
use Rattle.schedule_text.specs.GoDurations.{unit_at, begins_with_point, behind_first, literal_at, term_nanos, term_at}
use Rattle.schedule_text.specs.IsoDurations.{begins_with}
use Rattle.schedule_text.specs.Grammar.{AreDigits, value_of, UnitText, Hour, Minute, Second, Milli, Micro, MicroSign, GreekMu, Nano, LiteralText, Plain, Pointed, TermText, TermsText, Last, More}
use Rattle.schedule_text.proofs.Sums.{is_or}
use Rattle.schedule_text.proofs.MomentFields.{digit_range}
use Rattle.schedule_text.proofs.Digits.{whole_read, split, begins, some_digits, Billionths, billionths, digits_read}

-- What a reader of a text's front does: it reads a text of the form, or it finds a fault.
pub data View (A : Type 0) (p : List ℕ → Result (A × List ℕ) ℕ) (form : A → List ℕ → Type 0) (text : List ℕ) : Type 0 where
  Reads : (a : A) (s rest : List ℕ) → form a s → p text ≡ Ok (a, rest) → text ≡ s ++ rest → View A p form text
  Fails : (left : ℕ) → p text ≡ Err left → View A p form text

-- ---- units

abbrev UnitView : List ℕ → Type 0
UnitView text = View ℕ unit_at UnitText text

unit_m : (rest : List ℕ) → UnitView (109 ∷ rest)
unit_m [] = Reads 60000000000 (109 ∷ []) [] (Minute refl refl) refl refl
unit_m (c ∷ rest) = elim (is_or (c == 115)) [
  | inl is ↦ let same = eqb-true c 115 is in rw same (Reads 1000000 (109 ∷ 115 ∷ []) rest (Milli refl refl) refl refl)
  | inr other ↦ Reads 60000000000 (109 ∷ []) (c ∷ rest) (Minute refl refl) (rw other refl) refl
]

unit_n : (rest : List ℕ) → UnitView (110 ∷ rest)
unit_n [] = Fails 0 refl
unit_n (c ∷ rest) = elim (is_or (c == 115)) [
  | inl is ↦ let same = eqb-true c 115 is in rw same (Reads 1 (110 ∷ 115 ∷ []) rest (Nano refl refl) refl refl)
  | inr other ↦ Fails (length (c ∷ rest)) (rw other refl)
]

unit_u : (rest : List ℕ) → UnitView (117 ∷ rest)
unit_u [] = Fails 0 refl
unit_u (c ∷ rest) = elim (is_or (c == 115)) [
  | inl is ↦ let same = eqb-true c 115 is in rw same (Reads 1000 (117 ∷ 115 ∷ []) rest (Micro refl refl) refl refl)
  | inr other ↦ Fails (length (c ∷ rest)) (rw other refl)
]

unit_sign_s : (rest : List ℕ) → UnitView (194 ∷ 181 ∷ rest)
unit_sign_s [] = Fails 0 refl
unit_sign_s (c ∷ rest) = elim (is_or (c == 115)) [
  | inl is ↦ let same = eqb-true c 115 is in rw same (Reads 1000 (194 ∷ 181 ∷ 115 ∷ []) rest (MicroSign refl refl) refl refl)
  | inr other ↦ Fails (length (c ∷ rest)) (rw other refl)
]

unit_sign : (rest : List ℕ) → UnitView (194 ∷ rest)
unit_sign [] = Fails 0 refl
unit_sign (c ∷ rest) = elim (is_or (c == 181)) [
  | inl is ↦ let same = eqb-true c 181 is in rw same (unit_sign_s rest)
  | inr other ↦ Fails (length (c ∷ rest)) (rw other refl)
]

unit_greek_s : (rest : List ℕ) → UnitView (206 ∷ 188 ∷ rest)
unit_greek_s [] = Fails 0 refl
unit_greek_s (c ∷ rest) = elim (is_or (c == 115)) [
  | inl is ↦ let same = eqb-true c 115 is in rw same (Reads 1000 (206 ∷ 188 ∷ 115 ∷ []) rest (GreekMu refl refl) refl refl)
  | inr other ↦ Fails (length (c ∷ rest)) (rw other refl)
]

unit_greek : (rest : List ℕ) → UnitView (206 ∷ rest)
unit_greek [] = Fails 0 refl
unit_greek (c ∷ rest) = elim (is_or (c == 188)) [
  | inl is ↦ let same = eqb-true c 188 is in rw same (unit_greek_s rest)
  | inr other ↦ Fails (length (c ∷ rest)) (rw other refl)
]

unit_view : (text : List ℕ) → UnitView text
unit_view [] = Fails 0 refl
unit_view (b ∷ rest) = elim (is_or (b == 104)) [
  | inl is ↦ let same = eqb-true b 104 is in rw same (Reads 3600000000000 (104 ∷ []) rest (Hour refl refl) refl refl)
  | inr h ↦ elim (is_or (b == 109)) [
    | inl is ↦ let same = eqb-true b 109 is in rw same (unit_m rest)
    | inr m ↦ elim (is_or (b == 115)) [
      | inl is ↦ let same = eqb-true b 115 is in rw same (Reads 1000000000 (115 ∷ []) rest (Second refl refl) refl refl)
      | inr s ↦ elim (is_or (b == 110)) [
        | inl is ↦ let same = eqb-true b 110 is in rw same (unit_n rest)
        | inr n ↦ elim (is_or (b == 117)) [
          | inl is ↦ let same = eqb-true b 117 is in rw same (unit_u rest)
          | inr u ↦ elim (is_or (b == 194)) [
            | inl is ↦ let same = eqb-true b 194 is in rw same (unit_sign rest)
            | inr sign ↦ elim (is_or (b == 206)) [
              | inl is ↦ let same = eqb-true b 206 is in rw same (unit_greek rest)
              | inr greek ↦ Fails (length (b ∷ rest)) (rw (h, m, s, n, u, sign, greek) refl)
            ]
          ]
        ]
      ]
    ]
  ]
]

minute_read : (rest : List ℕ) → begins_with 115 rest ≡ false → unit_at (109 ∷ rest) ≡ Ok (60000000000, rest)
minute_read [] stop = refl
minute_read (c ∷ rest) stop = rw stop refl

-- a unit is read, unless an `s` follows
unit_read : (nanos : ℕ) (unit rest : List ℕ) → UnitText nanos unit → begins_with 115 rest ≡ false → unit_at (unit ++ rest) ≡ Ok (nanos, rest)
unit_read nanos unit rest (Hour is value) stop = rw (is, value) refl
unit_read nanos unit rest (Minute is value) stop = rw (is, value) (minute_read rest stop)
unit_read nanos unit rest (Second is value) stop = rw (is, value) refl
unit_read nanos unit rest (Milli is value) stop = rw (is, value) refl
unit_read nanos unit rest (Micro is value) stop = rw (is, value) refl
unit_read nanos unit rest (MicroSign is value) stop = rw (is, value) refl
unit_read nanos unit rest (GreekMu is value) stop = rw (is, value) refl
unit_read nanos unit rest (Nano is value) stop = rw (is, value) refl

-- no unit begins with a digit or a point
unit_first : (nanos : ℕ) (unit rest : List ℕ) → UnitText nanos unit → (begins_with_digit (unit ++ rest) ≡ false) × (begins_with_point (unit ++ rest) ≡ false)
unit_first nanos unit rest (Hour is value) = rw is (refl, refl)
unit_first nanos unit rest (Minute is value) = rw is (refl, refl)
unit_first nanos unit rest (Second is value) = rw is (refl, refl)
unit_first nanos unit rest (Milli is value) = rw is (refl, refl)
unit_first nanos unit rest (Micro is value) = rw is (refl, refl)
unit_first nanos unit rest (MicroSign is value) = rw is (refl, refl)
unit_first nanos unit rest (GreekMu is value) = rw is (refl, refl)
unit_first nanos unit rest (Nano is value) = rw is (refl, refl)

-- a literal and its value: the whole part and the billionths
pub record LiteralForm (value : ℕ × ℕ) (literal : List ℕ) : Type 0 where
  pub whole : List ℕ
  pub fraction : List ℕ
  pub are_digits : AreDigits whole × AreDigits fraction
  pub is_literal : LiteralText whole fraction literal
  pub value_is : value ≡ (value_of whole, value_of fraction * 10 ^ (9 - length fraction))

some_there : (whole fraction rest : List ℕ) → AreDigits whole × AreDigits fraction → 0 < length whole + length fraction → (begins_with_digit (whole ++ 46 ∷ (fraction ++ rest)) || begins_with_digit (fraction ++ rest)) ≡ true
some_there [] [] rest are some = absurd (omega arith)
some_there [] (b ∷ fraction) rest are some = are.1.0
some_there (b ∷ whole) fraction rest are some = let there = are.0.0 in rw there refl

product_value : (unit whole part : ℕ) → whole * unit + part * unit / 1000000000 ≡ (whole * 1000000000 + part) * unit / 1000000000
product_value unit whole part =
    let split : (whole * 1000000000 + part) * unit ≡ 1000000000 * (whole * unit) + part * unit = omega arith in
    rw split (omega arith)

literal_form : (whole fraction literal : List ℕ) → AreDigits whole × AreDigits fraction → LiteralText whole fraction literal → LiteralForm (value_of whole, value_of fraction * 10 ^ (9 - length fraction)) literal
literal_form whole fraction literal are is = record { whole = whole; fraction = fraction; are_digits = are; is_literal = is; value_is = refl }

term_value : (value : ℕ × ℕ) (unit whole part : ℕ) → value ≡ (whole, part) → term_nanos false value unit ≡ (whole * 1000000000 + part) * unit / 1000000000
term_value value unit whole part is = rw is (product_value unit whole part)

no_s : (b : ℕ) → is_digit b ≡ true → (b == 115) ≡ false
no_s b digit = let range = digit_range b digit in ne_eqb b 115 (λ same. omega (arith, range))

-- ---- literals

abbrev literal_by : Bool → Bool → Bool → ℕ → ℕ → List ℕ → List ℕ → List ℕ → ℕ → Result ((ℕ × ℕ) × List ℕ) ℕ
literal_by point before more whole part behind text rest left =
    if point
    then (if before || more then Ok ((whole, part), behind) else Err (length text))
    else (if before then Ok ((whole, 0), rest) else Err left)

literal_at-whole : (whole rest : List ℕ) → AreDigits whole → begins_with_digit rest ≡ false
    → literal_at false (whole ++ rest) ≡ literal_by (begins_with_point rest) (begins_with_digit (whole ++ rest)) (begins_with_digit (behind_first rest)) (value_of whole) (billionths_from first_weight 0 (behind_first rest)) (behind_billionths first_weight (behind_first rest)) (behind_first rest) rest (length (whole ++ rest))
literal_at-whole whole rest are stop =
    let read = whole_read whole rest are stop in
    rw (read.0, read.1) refl

literal_at-pointed : (whole more : List ℕ) → AreDigits whole → (begins_with_digit (whole ++ 46 ∷ more) || begins_with_digit more) ≡ true
    → literal_at false (whole ++ 46 ∷ more) ≡ Ok ((value_of whole, billionths_from first_weight 0 more), behind_billionths first_weight more)
literal_at-pointed whole more are some = literal_at-whole whole (46 ∷ more) are refl ∙ rw some refl

literal_at-plain : (whole rest : List ℕ) → AreDigits whole → begins_with_digit rest ≡ false → begins_with_point rest ≡ false → begins_with_digit (whole ++ rest) ≡ true → literal_at false (whole ++ rest) ≡ Ok ((value_of whole, 0), rest)
literal_at-plain whole rest are stop no_point some = literal_at-whole whole rest are stop ∙ rw (no_point, some) refl

literal_at-no_pointed : (whole more : List ℕ) → AreDigits whole → (begins_with_digit (whole ++ 46 ∷ more) || begins_with_digit more) ≡ false → literal_at false (whole ++ 46 ∷ more) ≡ Err (length more)
literal_at-no_pointed whole more are none = literal_at-whole whole (46 ∷ more) are refl ∙ rw none refl

literal_at-none : (whole rest : List ℕ) → AreDigits whole → begins_with_digit rest ≡ false → begins_with_point rest ≡ false → begins_with_digit (whole ++ rest) ≡ false → literal_at false (whole ++ rest) ≡ Err (length (whole ++ rest))
literal_at-none whole rest are stop no_point none = literal_at-whole whole rest are stop ∙ rw (no_point, none) refl

abbrev LiteralView : List ℕ → Type 0
LiteralView text = View (ℕ × ℕ) (literal_at false) LiteralForm text

or_false : (a b : Bool) → (a || b) ≡ true → a ≡ false → b ≡ true
or_false true b some none = let no : true ≡ false = none in cc
or_false false b some none = some

-- one of the two has a digit
some_literal : (whole more : List ℕ) (fraction : Billionths 9 0 more) → (begins_with_digit (whole ++ 46 ∷ more) || begins_with_digit more) ≡ true → 0 < length whole + length fraction.digits
some_literal whole more fraction some = elim (is_or (begins_with_digit (whole ++ 46 ∷ more))) [
  | inl there ↦ let before = some_digits whole (46 ∷ more) refl there in omega arith
  | inr none ↦ let behind = fraction.some (or_false (begins_with_digit (whole ++ 46 ∷ more)) (begins_with_digit more) some none) (omega arith) in omega arith
]

pub nothing_from : (n : ℕ) → 0 + n ≡ n
nothing_from n = omega arith

abbrev literal_of : ℕ → ℕ → List ℕ → Result ((ℕ × ℕ) × List ℕ) ℕ
literal_of whole part rest = Ok ((whole, part), rest)

ok_pair : (whole a b : ℕ) (s t : List ℕ) → a ≡ b → s ≡ t → literal_of whole a s ≡ literal_of whole b t
ok_pair whole a b s t first second = rw (first, second) refl

literal_pointed : (whole more : List ℕ) → AreDigits whole → LiteralView (whole ++ 46 ∷ more)
literal_pointed whole more are = elim (is_or (begins_with_digit (whole ++ 46 ∷ more) || begins_with_digit more)) [
  | inl some ↦
      let fraction = billionths 9 0 more in
      let value = fraction.value ∙ nothing_from (value_of fraction.digits * 10 ^ (9 - length fraction.digits)) in
      Reads (value_of whole, value_of fraction.digits * 10 ^ (9 - length fraction.digits)) (whole ++ 46 ∷ fraction.digits) fraction.rest
      (record { whole = whole; fraction = fraction.digits; are_digits = (are, fraction.are_digits); is_literal = Pointed refl (some_literal whole more fraction some) fraction.few; value_is = refl })
      (literal_at-pointed whole more are some ∙ ok_pair (value_of whole) _ _ _ _ value fraction.behind)
      (ap (λ (t : List ℕ). whole ++ 46 ∷ t) fraction.text_is ∙ sym (append_assoc whole (46 ∷ fraction.digits) fraction.rest))
  | inr none ↦ Fails (length more) (literal_at-no_pointed whole more are none)
]

literal_plain : (whole rest : List ℕ) → AreDigits whole → begins_with_digit rest ≡ false → begins_with_point rest ≡ false → LiteralView (whole ++ rest)
literal_plain whole rest are stop no_point = elim (is_or (begins_with_digit (whole ++ rest))) [
  | inl some ↦
      Reads (value_of whole, 0) whole rest
      (record { whole = whole; fraction = []; are_digits = (are, tt); is_literal = Plain refl refl (some_digits whole rest stop some); value_is = refl })
      (literal_at-plain whole rest are stop no_point some) refl
  | inr none ↦ Fails (length (whole ++ rest)) (literal_at-none whole rest are stop no_point none)
]

literal_behind : (whole rest : List ℕ) → AreDigits whole → begins_with_digit rest ≡ false → LiteralView (whole ++ rest)
literal_behind whole [] are stop = literal_plain whole [] are refl refl
literal_behind whole (c ∷ rest) are stop = elim (is_or (c == 46)) [
  | inl is ↦ let same = eqb-true c 46 is in rw same (literal_pointed whole rest are)
  | inr other ↦ literal_plain whole (c ∷ rest) are stop other
]

literal_view : (text : List ℕ) → LiteralView text
literal_view text =
    let parts = split text in
    subst (λ (t : List ℕ). LiteralView t) (sym parts.text_is) (literal_behind parts.digits parts.rest parts.are_digits parts.stops)

-- a literal is read if no digit and no point follows
literal_read : (value : ℕ × ℕ) (literal rest : List ℕ) → LiteralForm value literal → begins_with_digit rest ≡ false → begins_with_point rest ≡ false → literal_at false (literal ++ rest) ≡ Ok (value, rest)
literal_read value literal rest form stop no_point = literal_read_by form.is_literal
  where
    literal_read_by : LiteralText form.whole form.fraction literal → literal_at false (literal ++ rest) ≡ Ok (value, rest)
    literal_read_by (Plain is none some) =
        rw is (literal_at-plain form.whole rest form.are_digits.0 stop no_point (begins form.whole rest form.are_digits.0 some) ∙ ap (λ (v : ℕ × ℕ). Ok (v, rest)) (sym (form.value_is ∙ ap (λ (f : List ℕ). (value_of form.whole, value_of f * 10 ^ (9 - length f))) none)))
    literal_read_by (Pointed is some few) =
        let read = digits_read 9 0 form.fraction rest form.are_digits.1 few stop in
        let value_ = read.0 ∙ nothing_from (value_of form.fraction * 10 ^ (9 - length form.fraction)) in
        let there = some_there form.whole form.fraction rest form.are_digits some in
        rw (is, append_assoc form.whole (46 ∷ form.fraction) rest)
        (literal_at-pointed form.whole (form.fraction ++ rest) form.are_digits.0 there ∙ ok_pair (value_of form.whole) _ _ _ _ value_ read.1 ∙ ap (λ (v : ℕ × ℕ). Ok (v, rest)) (sym form.value_is))

-- ---- terms

-- a term and its nanoseconds, as a literal and a unit
term_form : (value : ℕ × ℕ) (nanos : ℕ) (literal unit : List ℕ) → LiteralForm value literal → UnitText nanos unit → TermText (term_nanos false value nanos) (literal ++ unit)
term_form value nanos literal unit form is_unit =
    record {
      whole = form.whole;
      fraction = form.fraction;
      literal = literal;
      unit = nanos;
      unit_text = unit;
      are_digits = form.are_digits;
      is_literal = form.is_literal;
      is_unit = is_unit;
      text_is = refl;
      nanos_is = term_value value nanos (value_of form.whole) (value_of form.fraction * 10 ^ (9 - length form.fraction)) form.value_is;
    }

abbrev pub TermView : List ℕ → Type 0
TermView text = View ℕ (term_at false) TermText text

term_fails : (text : List ℕ) (left : ℕ) → literal_at false text ≡ Err left → term_at false text ≡ Err left
unfolding term_at
term_fails text left is = rw is refl

term_fails_behind : (text : List ℕ) (value : ℕ × ℕ) (rest : List ℕ) (left : ℕ) → literal_at false text ≡ Ok (value, rest) → unit_at rest ≡ Err left → term_at false text ≡ Err left
unfolding term_at
term_fails_behind text value rest left is behind = rw (is, behind) refl

term_reads : (text : List ℕ) (value : ℕ × ℕ) (rest : List ℕ) (nanos : ℕ) (more : List ℕ) → literal_at false text ≡ Ok (value, rest) → unit_at rest ≡ Ok (nanos, more) → term_at false text ≡ Ok (term_nanos false value nanos, more)
unfolding term_at
term_reads text value rest nanos more is behind = rw (is, behind) refl

term_behind : (text : List ℕ) (value : ℕ × ℕ) (literal rest : List ℕ) → LiteralForm value literal → literal_at false text ≡ Ok (value, rest) → text ≡ literal ++ rest → UnitView rest → TermView text
term_behind text value literal rest form read is (Fails left fault) = Fails left (term_fails_behind text value rest left read fault)
term_behind text value literal rest form read is (Reads nanos unit more unit_is behind at) =
    Reads (term_nanos false value nanos) (literal ++ unit) more (term_form value nanos literal unit form unit_is) (term_reads text value rest nanos more read behind)
    (is ∙ ap (λ (t : List ℕ). literal ++ t) at ∙ sym (append_assoc literal unit more))

term_by_literal : (text : List ℕ) → LiteralView text → TermView text
term_by_literal text (Fails left fault) = Fails left (term_fails text left fault)
term_by_literal text (Reads value literal rest form read is) = term_behind text value literal rest form read is (unit_view rest)

pub term_view : (text : List ℕ) → TermView text
term_view text = term_by_literal text (literal_view text)

-- a term is read if no `s` follows
pub term_read : (nanos : ℕ) (term rest : List ℕ) → TermText nanos term → begins_with 115 rest ≡ false → term_at false (term ++ rest) ≡ Ok (nanos, rest)
term_read nanos term rest is stop =
    let value : ℕ × ℕ = (value_of is.whole, value_of is.fraction * 10 ^ (9 - length is.fraction)) in
    let form = literal_form is.whole is.fraction is.literal is.are_digits is.is_literal in
    let first = unit_first is.unit is.unit_text rest is.is_unit in
    let literal = literal_read value is.literal (is.unit_text ++ rest) form first.0 first.1 in
    let text : term ++ rest ≡ is.literal ++ (is.unit_text ++ rest) = ap (λ (t : List ℕ). t ++ rest) is.text_is ∙ append_assoc is.literal is.unit_text rest in
    rw text (term_reads (is.literal ++ (is.unit_text ++ rest)) value (is.unit_text ++ rest) is.unit rest literal (unit_read is.unit is.unit_text rest is.is_unit stop) ∙ ap (λ (n : ℕ). Ok (n, rest)) (sym (is.nanos_is ∙ sym (term_value value is.unit (value_of is.whole) (value_of is.fraction * 10 ^ (9 - length is.fraction)) refl))))

literal_length : (whole fraction literal : List ℕ) → LiteralText whole fraction literal → 0 < length literal
literal_length whole fraction literal (Plain is none some) = rw is some
literal_length whole fraction literal (Pointed is some few) = rw is (omega (arith, length-append whole (46 ∷ fraction)))

pub term_length : (nanos : ℕ) (term : List ℕ) → TermText nanos term → 0 < length term
term_length nanos term is =
    let some = literal_length is.whole is.fraction is.literal is.is_literal in
    omega (arith, ap length is.text_is, length-append is.literal is.unit_text)

literal_start : (whole fraction literal rest : List ℕ) → AreDigits whole → LiteralText whole fraction literal → begins_with 115 (literal ++ rest) ≡ false
literal_start [] fraction literal rest are (Plain is none some) = absurd (omega arith)
literal_start (b ∷ whole) fraction literal rest are (Plain is none some) = rw is (no_s b are.0)
literal_start [] fraction literal rest are (Pointed is some few) = rw is refl
literal_start (b ∷ whole) fraction literal rest are (Pointed is some few) = rw is (no_s b are.0)

pub term_start : (nanos : ℕ) (term rest : List ℕ) → TermText nanos term → begins_with 115 (term ++ rest) ≡ false
term_start nanos term rest is =
    let text : term ++ rest ≡ is.literal ++ (is.unit_text ++ rest) = ap (λ (t : List ℕ). t ++ rest) is.text_is ∙ append_assoc is.literal is.unit_text rest in
    rw text (literal_start is.whole is.fraction is.literal (is.unit_text ++ rest) is.are_digits.0 is.is_literal)

pub terms_start : (sum : ℕ) (terms : List ℕ) → TermsText sum terms → begins_with 115 terms ≡ false
terms_start sum terms (Last term) = ap (begins_with 115) (sym (append-nil terms)) ∙ term_start sum terms [] term
terms_start sum terms (More first rest s z term more is value) = rw is (term_start first s z term)
