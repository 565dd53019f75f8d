-- A text of a period of ISO 8601 is read as its count and its amounts, and no other text is read.
use Rattle.std.proofs.Common.{◌≡◌, ℕ, ◌-◌, ◌<◌, ◌==◌, ◌||◌, Bool, true, false, if◌then◌else◌, inl, inr, List, [], ◌∷◌, ◌++◌, length, length-append, arith, refl, sym, ap, ◌∙◌, subst, Option, Some, None, Result, Ok, Err}
use Rattle.std.specs.Prelude.{nat_lt}
use Rattle.std.proofs.lemmas.Bool.{eqb-true}
use Rattle.schedule_text.specs.declared.error.ScheduleError.{ScheduleError}
use Rattle.schedule_text.specs.declared.error.ScheduleError.TheVariants.{BadMoment, BadDuration, Negative, ZeroRepeats, OutOfRange, OutOfMemory}
use Rattle.schedule_text.specs.declared.advance.Period.{Period}
use Rattle.schedule_text.specs.Numbers.{behind_digits}
use Rattle.schedule_text.specs.Reading.{◌>>=◌}
use Rattle.schedule_text.specs.GoDurations.{most_nanos, behind_first}
use Rattle.schedule_text.specs.IsoDurations.{begins_with, has_field, field_number, behind_field, duration_at, most_months, ranged, iso_duration, count_at, counted, repeated, iso_period}
use Rattle.schedule_text.specs.Faults.{FirstFault}
use Rattle.schedule_text.specs.IsoGrammar.{FieldText, NoField, Field, IsoText, CountText, Count, PeriodText, Alone, Counted, BeginsZero, ranged_period, IsPeriod, AnswersPeriod}
use Rattle.schedule_text.proofs.Sums.{is_or}
use Rattle.schedule_text.proofs.IsoFields.{begins_is, field_read, field_is_there}
use Rattle.schedule_text.proofs.IsoPlaces.{period_at, period_placed}
use Rattle.schedule_text.proofs.Places.{not_both, fault_place}
use Rattle.schedule_text.proofs.IsoTexts.{duration_read, duration_sound, amounts_or}

-- ---- a count

-- the count before a `/`, and what is behind it
abbrev count_of : List ℕ → ℕ
count_of text = field_number false 47 (behind_first text)

abbrev behind_count : List ℕ → List ℕ
behind_count text = behind_field 47 (behind_first text)

count_at-there : (text : List ℕ) → has_field 47 text ≡ true → count_at false text ≡ Ok (field_number false 47 text, behind_field 47 text)
count_at-there text there = rw there refl

count_at-none : (text : List ℕ) → has_field 47 text ≡ false → count_at false text ≡ Err (length (behind_digits text))
count_at-none text none = rw none refl

count_form : (n : ℕ) (s : List ℕ) → FieldText 47 n s → 0 < length s → CountText n (82 ∷ s)
count_form n s (NoField is value) some = absurd (omega (arith, ap length is))
count_form n s (Field digits are long is value) some = Count digits are long (ap (λ (t : List ℕ). 82 ∷ t) is) value

-- a text with a count, and what is behind it
record Splits (text : List ℕ) : Type 0 where
  pub front : List ℕ
  pub is_count : CountText (count_of text) front
  pub text_is : text ≡ front ++ behind_count text

splits : (text : List ℕ) → begins_with 82 text ≡ true → has_field 47 (behind_first text) ≡ true → Splits text
splits text first there =
    let start = begins_is 82 text first in
    let field = field_read 47 (behind_first text) in
    record {
      front = 82 ∷ field.s;
      is_count = count_form (count_of text) field.s field.is_field (field.some there);
      text_is = start.1 ∙ ap (λ (t : List ℕ). 82 ∷ t) (sym (ap behind_first start.1) ∙ field.text_is);
    }

record CountIs (n : ℕ) (text rest : List ℕ) : Type 0 where
  pub first : begins_with 82 text ≡ true
  pub there : has_field 47 (behind_first text) ≡ true
  pub count : count_of text ≡ n
  pub behind : behind_count text ≡ rest

count_is : (n : ℕ) (front rest text : List ℕ) → CountText n front → text ≡ front ++ rest → CountIs n text rest
count_is n front rest text (Count digits are some is value) whole =
    let field = field_is_there 47 n digits rest refl are some value in
    let text_is : text ≡ 82 ∷ ((digits ++ 47 ∷ []) ++ rest) = whole ∙ ap (λ (t : List ℕ). t ++ rest) is in
    let behind : behind_first text ≡ (digits ++ 47 ∷ []) ++ rest = ap behind_first text_is in
    record {
      first = ap (begins_with 82) text_is;
      there = ap (λ (t : List ℕ). has_field 47 t) behind ∙ field.there (omega (arith, length-append digits (47 ∷ [])));
      count = ap (λ (t : List ℕ). field_number false 47 t) behind ∙ field.number;
      behind = ap (λ (t : List ℕ). behind_field 47 t) behind ∙ field.behind;
    }

-- ---- what is answered

iso_period-alone : (text : List ℕ) (amounts : ℕ × ℕ) → begins_with 82 text ≡ false → duration_at false text ≡ Ok amounts → iso_period text ≡ ranged_period None amounts
unfolding iso_period iso_duration
iso_period-alone text amounts none is = rw (none, is) refl

pub iso_period-alone_fault : (text : List ℕ) (left : ℕ) → begins_with 82 text ≡ false → duration_at false text ≡ Err left → iso_period text ≡ Err (BadDuration (length text - left))
unfolding iso_period iso_duration
iso_period-alone_fault text left none is = rw (none, is) refl

pub iso_period-no_count : (text : List ℕ) → begins_with 82 text ≡ true → has_field 47 (behind_first text) ≡ false → iso_period text ≡ Err (BadDuration (length text - length (behind_digits (behind_first text))))
unfolding iso_period
iso_period-no_count text first none = rw (first, none) refl

iso_period-repeated : (text : List ℕ) → begins_with 82 text ≡ true → has_field 47 (behind_first text) ≡ true → iso_period text ≡ repeated text (count_of text, behind_count text)
unfolding iso_period
iso_period-repeated text first there = rw (first, there) refl

repeated-zero : (text : List ℕ) (count : ℕ) (rest : List ℕ) → (count == 0) ≡ true → repeated text (count, rest) ≡ Err ZeroRepeats
repeated-zero text count rest is = rw is refl

repeated-ok : (text : List ℕ) (count : ℕ) (rest : List ℕ) (amounts : ℕ × ℕ) → (count == 0) ≡ false → duration_at false rest ≡ Ok amounts → repeated text (count, rest) ≡ ranged_period (Some count) amounts
repeated-ok text count rest amounts some is = rw (some, is) refl

pub repeated-fault : (text : List ℕ) (count : ℕ) (rest : List ℕ) (left : ℕ) → (count == 0) ≡ false → duration_at false rest ≡ Err left → repeated text (count, rest) ≡ Err (BadDuration (length text - left))
repeated-fault text count rest left some is = rw (some, is) refl

ranged_period-zero : (count : ℕ) (amounts : ℕ × ℕ) → (count == 0) ≡ true → ranged_period (Some count) amounts ≡ Err ZeroRepeats
ranged_period-zero count amounts is = rw is refl

counted_form : (n : ℕ) (text front duration : List ℕ) (amounts : ℕ × ℕ) → CountText n front → IsoText amounts duration → text ≡ front ++ duration → iso_period text ≡ ranged_period (Some n) amounts
counted_form n text front duration amounts count form is =
    let at = count_is n front duration text count is in
    let step : iso_period text ≡ repeated text (n, duration) = iso_period-repeated text at.first at.there ∙ ap (λ (m : ℕ). repeated text (m, behind_count text)) at.count ∙ ap (λ (t : List ℕ). repeated text (n, t)) at.behind in
    elim (is_or (n == 0)) [
      | inl none ↦ step ∙ repeated-zero text n duration none ∙ sym (ranged_period-zero n amounts none)
      | inr some ↦ step ∙ repeated-ok text n duration amounts some (duration_read amounts duration form)
    ]

pub iso_period-form : (count : Option ℕ) (amounts : ℕ × ℕ) (text : List ℕ) → PeriodText count amounts text → iso_period text ≡ ranged_period count amounts
iso_period-form count amounts text (Alone none form) =
    iso_period-alone text amounts (ap (begins_with 82) form.text_is) (duration_read amounts text form) ∙ ap (λ (c : Option ℕ). ranged_period c amounts) (sym none)
iso_period-form count amounts text (Counted n front duration is_count form is value) =
    counted_form n text front duration amounts is_count form is ∙ ap (λ (c : Option ℕ). ranged_period c amounts) (sym value)

pub iso_period-zero : (text : List ℕ) → BeginsZero text → iso_period text ≡ Err ZeroRepeats
iso_period-zero text zeros =
    let at = count_is 0 zeros.0 zeros.1 text zeros.2 zeros.3 in
    iso_period-repeated text at.first at.there ∙ repeated-zero text (count_of text) (behind_count text) (ap (λ (n : ℕ). n == 0) at.count)

-- ---- every answer

-- where the place of a fault is read from
period_at-there : (text : List ℕ) → begins_with 82 text ≡ true → has_field 47 (behind_first text) ≡ true → period_at text ≡ duration_at false (behind_count text)
period_at-there text first there = rw (first, there) refl

period_at-none : (text : List ℕ) → begins_with 82 text ≡ true → has_field 47 (behind_first text) ≡ false → period_at text ≡ Err (length (behind_digits (behind_first text)))
period_at-none text first none = rw (first, none) refl

period_at-alone : (text : List ℕ) → begins_with 82 text ≡ false → period_at text ≡ duration_at false text
period_at-alone text other = rw other refl

pub data PeriodView (text : List ℕ) : Type 0 where
  Reads : (count : Option ℕ) (amounts : ℕ × ℕ) → PeriodText count amounts text → (ranged_period count amounts ≡ Err ZeroRepeats → ⊥) → iso_period text ≡ ranged_period count amounts → PeriodView text
  Zeros : BeginsZero text → iso_period text ≡ Err ZeroRepeats → PeriodView text
  Fails : (left : ℕ) → period_at text ≡ Err left → iso_period text ≡ Err (BadDuration (length text - left)) → PeriodView text

-- the answer for amounts and an optional count
abbrev answer_by : Bool → Period → Option ℕ → Result (Period × Option ℕ) ScheduleError
answer_by true period count = Err OutOfRange
answer_by false period count = Ok (period, count)

answer_fault : (over : Bool) (period : Period) (count : Option ℕ) (e : ScheduleError) → answer_by over period count ≡ Err e → e ≡ OutOfRange
answer_fault true period count e is = cc
answer_fault false period count e is = cc

bound : (over : Bool) (period : Period) (count : Option ℕ) → ((if over then Err OutOfRange else Ok period) >>= λ (p : Period). Ok (p, count)) ≡ answer_by over period count
bound true period count = refl
bound false period count = refl

abbrev is_over : ℕ × ℕ → Bool
is_over amounts = nat_lt most_months amounts.0 || nat_lt most_nanos amounts.1

abbrev period_from : ℕ × ℕ → Period
period_from amounts = record { months = amounts.0; nanos = amounts.1 }

counted_by : (large : Bool) (answer : Result (Period × Option ℕ) ScheduleError) (e : ScheduleError) → (answer ≡ Err e → e ≡ OutOfRange) → (if large then Err OutOfRange else answer) ≡ Err e → e ≡ OutOfRange
counted_by true answer e rest is = cc
counted_by false answer e rest is = rest is

alone_fault : (amounts : ℕ × ℕ) (e : ScheduleError) → ranged_period None amounts ≡ Err e → e ≡ OutOfRange
alone_fault amounts e is = answer_fault (is_over amounts) (period_from amounts) None e (sym (bound (is_over amounts) (period_from amounts) None) ∙ is)

counted_fault : (count : ℕ) (amounts : ℕ × ℕ) (e : ScheduleError) → counted count amounts ≡ Err e → e ≡ OutOfRange
counted_fault count amounts e is =
    counted_by (nat_lt 4294967295 count) (ranged amounts >>= λ (p : Period). Ok (p, Some count)) e
    (λ err. answer_fault (is_over amounts) (period_from amounts) (Some count) e (sym (bound (is_over amounts) (period_from amounts) (Some count)) ∙ err)) is

several_fault : (count : ℕ) (amounts : ℕ × ℕ) (e : ScheduleError) → (count == 0) ≡ false → ranged_period (Some count) amounts ≡ Err e → e ≡ OutOfRange
several_fault count amounts e some is = counted_fault count amounts e (rw some at is)

zero_is_no_range : ZeroRepeats ≡ OutOfRange → ⊥
zero_is_no_range is = cc

bad_is_no_range : (at : ℕ) → BadDuration at ≡ OutOfRange → ⊥
bad_is_no_range at is = cc

counted_view : (text : List ℕ) → begins_with 82 text ≡ true → has_field 47 (behind_first text) ≡ true → PeriodView text
counted_view text first there =
    let parts = splits text first there in
    let step = iso_period-repeated text first there in
    elim (is_or (count_of text == 0)) [
      | inl none ↦
          Zeros (parts.front, behind_count text, subst (λ (n : ℕ). CountText n parts.front) (eqb-true (count_of text) 0 none) parts.is_count, parts.text_is)
          (step ∙ repeated-zero text (count_of text) (behind_count text) none)
      | inr some ↦ elim (amounts_or (duration_at false (behind_count text))) [
        | inl ok ↦
            Reads (Some (count_of text)) ok.0 (Counted (count_of text) parts.front (behind_count text) parts.is_count (duration_sound (behind_count text) ok.0 ok.1) parts.text_is refl)
            (λ zeros. zero_is_no_range (several_fault (count_of text) ok.0 ZeroRepeats some zeros))
            (step ∙ repeated-ok text (count_of text) (behind_count text) ok.0 some ok.1)
        | inr fault ↦ Fails fault.0 (period_at-there text first there ∙ fault.1) (step ∙ repeated-fault text (count_of text) (behind_count text) fault.0 some fault.1)
      ]
    ]

pub period_view : (text : List ℕ) → PeriodView text
period_view text = elim (is_or (begins_with 82 text)) [
  | inl first ↦ elim (is_or (has_field 47 (behind_first text))) [
    | inl there ↦ counted_view text first there
    | inr none ↦ Fails (length (behind_digits (behind_first text))) (period_at-none text first none) (iso_period-no_count text first none)
  ]
  | inr other ↦ elim (amounts_or (duration_at false text)) [
    | inl ok ↦ Reads None ok.0 (Alone refl (duration_sound text ok.0 ok.1)) (λ zeros. zero_is_no_range (alone_fault ok.0 ZeroRepeats zeros)) (iso_period-alone text ok.0 other ok.1)
    | inr fault ↦ Fails fault.0 (period_at-alone text other ∙ fault.1) (iso_period-alone_fault text fault.0 other fault.1)
  ]
]

period_by : (some : Bool) (answer : Result (Period × Option ℕ) ScheduleError) (at : ℕ) → (answer ≡ Err (BadDuration at) → ⊥) → (if some then Err ZeroRepeats else answer) ≡ Err (BadDuration at) → ⊥
period_by true answer at rest is = cc
period_by false answer at rest is = rest is

pub ranged_period-no_fault : (count : Option ℕ) (amounts : ℕ × ℕ) (at : ℕ) → ranged_period count amounts ≡ Err (BadDuration at) → ⊥
ranged_period-no_fault None amounts at is = bad_is_no_range at (alone_fault amounts (BadDuration at) is)
ranged_period-no_fault (Some count) amounts at is = period_by (count == 0) (counted count amounts) at (λ err. bad_is_no_range at (counted_fault count amounts (BadDuration at) err)) is

answered : (text : List ℕ) (count : Option ℕ) (amounts : ℕ × ℕ) (answer : Result (Period × Option ℕ) ScheduleError) → PeriodText count amounts text → (ranged_period count amounts ≡ Err ZeroRepeats → ⊥) → answer ≡ ranged_period count amounts → AnswersPeriod text answer
answered text count amounts (Ok period) form no_zero is = (count, amounts, form, is)
answered text count amounts (Err (BadMoment at)) form no_zero is = (count, amounts, form, is)
answered text count amounts (Err (BadDuration at)) form no_zero is = absurd (ranged_period-no_fault count amounts at (sym is))
answered text count amounts (Err Negative) form no_zero is = (count, amounts, form, is)
answered text count amounts (Err ZeroRepeats) form no_zero is = absurd (no_zero (sym is))
answered text count amounts (Err OutOfRange) form no_zero is = (count, amounts, form, is)
answered text count amounts (Err OutOfMemory) form no_zero is = (count, amounts, form, is)

-- ---- the place of a fault

period_sound : (text : List ℕ) (a : ℕ × ℕ) → period_at text ≡ Ok a → IsPeriod text
period_sound text a ok = elim (is_or (begins_with 82 text)) [
  | inl first ↦ elim (is_or (has_field 47 (behind_first text))) [
    | inl there ↦
        let parts = splits text first there in
        (Some (count_of text), a, Counted (count_of text) parts.front (behind_count text) parts.is_count (duration_sound (behind_count text) a (sym (period_at-there text first there) ∙ ok)) parts.text_is refl)
    | inr none ↦ absurd (let none_read = period_at-none text first none in not_both a (length (behind_digits (behind_first text))) (period_at text) ok none_read)
  ]
  | inr other ↦ (None, a, Alone refl (duration_sound text a (sym (period_at-alone text other) ∙ ok)))
]

period_complete_by : (text : List ℕ) (count : Option ℕ) (amounts : ℕ × ℕ) → PeriodText count amounts text → period_at text ≡ Ok amounts
period_complete_by text count amounts (Alone none form) = let first : begins_with 82 text ≡ false = ap (begins_with 82) form.text_is in period_at-alone text first ∙ duration_read amounts text form
period_complete_by text count amounts (Counted n front duration is_count form is value) =
    let at = count_is n front duration text is_count is in
    period_at-there text at.first at.there ∙ ap (duration_at false) at.behind ∙ duration_read amounts duration form

fault_at : (text : List ℕ) (left : ℕ) → period_at text ≡ Err left → FirstFault IsPeriod text (length text - left)
fault_at text left fault =
    fault_place period_at IsPeriod period_sound (λ text form. (form.1, period_complete_by text form.0 form.1 form.2)) text left fault (period_placed text)

answers_by : (text : List ℕ) → PeriodView text → AnswersPeriod text (iso_period text)
answers_by text (Reads count amounts form no_zero is) = answered text count amounts (iso_period text) form no_zero is
answers_by text (Zeros begins is) = rw is begins
answers_by text (Fails left fault is) = rw is (fault_at text left fault)

pub iso_period-answers : (text : List ℕ) → AnswersPeriod text (iso_period text)
iso_period-answers text = answers_by text (period_view text)
