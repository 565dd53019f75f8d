-- What the readers of a moment's fields do at each text.
use Rattle.std.proofs.Common.{◌≡◌, ℕ, ◌+◌, ◌-◌, ◌*◌, ◌/◌, ◌%◌, ◌≤◌, ◌==◌, ◌&&◌, Bool, true, false, inl, inr, List, [], ◌∷◌, ◌++◌, arith, refl, sym, ap, ◌∙◌, min, pos, Result, Ok}
use Rattle.std.specs.Prelude.{nat_le}
use Rattle.std.proofs.lemmas.Bool.{leb-true, eq-eqb, eqb-true}
use Rattle.std.proofs.lemmas.Bool.Decides.{nat_tests}
use Rattle.jiff_core.specs.Calendar.{days_in_month}
use Rattle.jiff_core.proofs.CalendarLemmas.{days_in_month_bounds}
use Rattle.schedule_text.specs.Calendar.{CivilDate}
use Rattle.schedule_text.specs.Numbers.{is_digit}
use Rattle.schedule_text.specs.Reading.{◌>>=◌}
use Rattle.schedule_text.specs.Moments.{two_at, either_at, year_at, date_at, minutes_at, clock_at, two_digits, date_text}
use Rattle.schedule_text.specs.Grammar.{IsDate}
use Rattle.schedule_text.proofs.Outcomes.{Outcome, Good, Short, Byte, Field, bind, after, mapped}
use Rattle.schedule_text.proofs.Sums.{is_or}

pub digit_range : (b : ℕ) → is_digit b ≡ true → (48 ≤ b) × (b ≤ 57)
digit_range b is = grind (arith, nat_tests)

parts : (a b : Bool) → (a && b) ≡ true → (a ≡ true) × (b ≡ true)
parts true true is = (refl, refl)
parts true false is = cc
parts false b is = cc

-- ---- two digits

abbrev pub Two : ℕ → ℕ → ℕ → List ℕ → Type 0
Two low high n s = (low ≤ n) × (n ≤ high) × (s ≡ two_digits n)

pair_same : (b c d e : ℕ) → b ≡ d → c ≡ e → b ∷ c ∷ [] ≡ d ∷ e ∷ []
pair_same b c d e first second = rw (first, second) refl

module _ (low high : ℕ) (small : low ≤ 9) (order : low ≤ high) (below : high ≤ 99) where
  abbrev TwoAt : List ℕ → Type 0
  TwoAt text = Outcome ℕ (two_at low high) (Two low high) text

  -- a number in the range with that first digit
  abbrev with_tens : ℕ → ℕ
  with_tens b = min high ((b - 48) * 10 + 9)

  tens_form : (b : ℕ) → is_digit b ≡ true → nat_le (b - 48) (high / 10) ≡ true → Two low high (with_tens b) (b ∷ (48 + with_tens b % 10) ∷ [])
  tens_form b digit fits =
      let range = digit_range b digit in
      let most = leb-true (b - 48) (high / 10) fits in
      (omega (arith, range, most), omega arith, pair_same b (48 + with_tens b % 10) (48 + with_tens b / 10) (48 + with_tens b % 10) (omega (arith, range, most)) refl)

  two_in : (b c : ℕ) (rest : List ℕ) → is_digit b ≡ true → nat_le (b - 48) (high / 10) ≡ true → is_digit c ≡ true → TwoAt (b ∷ c ∷ rest)
  two_in b c rest db fits dc =
      let first = digit_range b db in
      let second = digit_range c dc in
      let n = (b - 48) * 10 + (c - 48) in
      elim (is_or (nat_le low n && nat_le n high)) [
        | inl within ↦
            let bounds : (low ≤ n) × (n ≤ high) = grind (arith, nat_tests) in
            let same : b ∷ c ∷ [] ≡ two_digits n = pair_same b c (48 + n / 10) (48 + n % 10) (omega (arith, first, second)) (omega (arith, first, second)) in
            Good n (b ∷ c ∷ []) rest (bounds.0, bounds.1, same) (λ y. rw (db, fits, dc, within) refl) refl
        | inr without ↦ Field (with_tens b) [] b c rest ((48 + with_tens b % 10) ∷ []) (tens_form b db fits) db dc (λ y. rw (db, fits, dc, without) refl) refl
      ]

  two_tail : (b : ℕ) (rest : List ℕ) → is_digit b ≡ true → nat_le (b - 48) (high / 10) ≡ true → TwoAt (b ∷ rest)
  two_tail b [] db fits = Short (with_tens b) ((48 + with_tens b % 10) ∷ []) (tens_form b db fits) (rw (db, fits) refl)
  two_tail b (c ∷ rest) db fits = elim (is_or (is_digit c)) [
    | inl dc ↦ two_in b c rest db fits dc
    | inr other ↦ Byte (with_tens b) (b ∷ []) c rest ((48 + with_tens b % 10) ∷ []) (tens_form b db fits) (λ y. rw (db, fits, other) refl) refl
  ]

  pub two_outcome : (text : List ℕ) → TwoAt text
  two_outcome [] = Short high (two_digits high) (order, omega arith, refl) refl
  two_outcome (b ∷ rest) = elim (is_or (is_digit b && nat_le (b - 48) (high / 10))) [
    | inl first ↦
        let both : (is_digit b ≡ true) × (nat_le (b - 48) (high / 10) ≡ true) = parts (is_digit b) (nat_le (b - 48) (high / 10)) first in
        two_tail b rest both.0 both.1
    | inr other ↦ Byte high [] b rest (two_digits high) (order, omega arith, refl) (λ y. rw other refl) refl
  ]

-- ---- a byte between two fields

module _ {A : Type 0} (x : ℕ) (q : List ℕ → Result (A × List ℕ) ℕ) (g h : A → List ℕ → Type 0) (more : (a : A) (s : List ℕ) → g a s → h a (x ∷ s)) (a : A) (z : List ℕ) (form : g a z) (next : (text : List ℕ) → Outcome A q g text) where
  abbrev separated : List ℕ → Result (A × List ℕ) ℕ
  separated text = either_at x x text >>= λ rest. q rest

  pub separated_outcome : (text : List ℕ) → Outcome A separated h text
  separated_outcome [] = Short a (x ∷ z) (more a z form) refl
  separated_outcome (b ∷ rest) = elim (is_or (b == x)) [
    | inl is ↦
        let same = eqb-true b x is in
        let here : (x == x) ≡ true = eq-eqb x x refl in
        rw same (after q separated x g h (λ y. rw here refl) more rest (next rest))
    | inr other ↦ Byte a [] b rest (x ∷ z) (more a z form) (λ y. rw other refl) refl
  ]

-- ---- dates

abbrev YearText : ℕ → List ℕ → Type 0
YearText year s = (year ≤ 9999) × (s ≡ two_digits (year / 100) ++ two_digits (year % 100))

abbrev LastTwo : ℕ → ℕ → List ℕ → Type 0
LastTwo century year s = (year / 100 ≡ century) × (s ≡ two_digits (year % 100))

last_two : (century n : ℕ) (s : List ℕ) → Two 0 99 n s → LastTwo century (century * 100 + n) s
last_two century n s is =
    let low = is.1 in
    let here : (century * 100 + n) % 100 ≡ n = omega arith in
    (omega arith, is.2 ∙ ap two_digits (sym here))

year_join : (century year : ℕ) (s z : List ℕ) → Two 0 99 century s → LastTwo century year z → YearText year (s ++ z)
year_join century year s z first last =
    let low = first.1 in
    let here = last.0 in
    (omega arith, rw (first.2, last.1, here) refl)

year_outcome : (text : List ℕ) → Outcome ℕ year_at YearText text
unfolding year_at
year_outcome text =
    bind (two_at 0 99) (λ century rest. two_at 0 99 rest >>= λ year. Ok (century * 100 + year.0, year.1)) (Two 0 99) LastTwo YearText
    year_join
    (λ century s is. (century * 100 + 0, two_digits 0, last_two century 0 (two_digits 0) (omega arith, omega arith, refl)))
    (λ century s is rest. mapped (two_at 0 99) (λ year. century * 100 + year) (Two 0 99) (LastTwo century) (last_two century) rest (two_outcome 0 99 (omega arith) (omega arith) (omega arith) rest))
    text (two_outcome 0 99 (omega arith) (omega arith) (omega arith) text)

abbrev pub DateText : CivilDate → List ℕ → Type 0
DateText date s = IsDate date × (s ≡ date_text date)

module _ (year : ℕ) where
  module _ (month : ℕ) where
    abbrev DayText : CivilDate → List ℕ → Type 0
    DayText date s = (date.year ≡ year) × (date.month ≡ month) × (1 ≤ date.day) × (date.day ≤ days_in_month (pos year) month) × (s ≡ two_digits date.day)

    abbrev BehindMonth : CivilDate → List ℕ → Type 0
    BehindMonth date s = (date.year ≡ year) × (date.month ≡ month) × (1 ≤ date.day) × (date.day ≤ days_in_month (pos year) month) × (s ≡ 45 ∷ two_digits date.day)

    abbrev on : ℕ → CivilDate
    on day = record { year = year; month = month; day = day }

    first_day : (day : ℕ) (s : List ℕ) → Two 1 (days_in_month (pos year) month) day s → DayText (on day) s
    first_day day s is = (refl, refl, is.0, is.1, is.2)

    day_outcome : (text : List ℕ) → Outcome CivilDate (λ rest. two_at 1 (days_in_month (pos year) month) rest >>= λ day. Ok (on day.0, day.1)) DayText text
    day_outcome text =
        let most = days_in_month_bounds (pos year) month in
        mapped (two_at 1 (days_in_month (pos year) month)) on (Two 1 (days_in_month (pos year) month)) DayText first_day text
        (two_outcome 1 (days_in_month (pos year) month) (omega arith) (omega (arith, most)) (omega (arith, most)) text)

    some_day : DayText (on 1) (two_digits 1)
    some_day = let most = days_in_month_bounds (pos year) month in (refl, refl, omega arith, omega (arith, most), refl)

    behind_month : (text : List ℕ) → Outcome CivilDate (λ text. either_at 45 45 text >>= λ rest. two_at 1 (days_in_month (pos year) month) rest >>= λ day. Ok (on day.0, day.1)) BehindMonth text
    behind_month text =
        separated_outcome 45 (λ rest. two_at 1 (days_in_month (pos year) month) rest >>= λ day. Ok (on day.0, day.1)) DayText BehindMonth
        (λ date s is. (is.0, is.1, is.2, is.3, ap (λ (t : List ℕ). 45 ∷ t) is.4))
        (on 1) (two_digits 1) some_day day_outcome text

  abbrev MonthText : CivilDate → List ℕ → Type 0
  MonthText date s = (date.year ≡ year) × (1 ≤ date.month) × (date.month ≤ 12) × (1 ≤ date.day) × (date.day ≤ days_in_month (pos year) date.month) × (s ≡ two_digits date.month ++ 45 ∷ two_digits date.day)

  abbrev BehindYear : CivilDate → List ℕ → Type 0
  BehindYear date s = (date.year ≡ year) × (1 ≤ date.month) × (date.month ≤ 12) × (1 ≤ date.day) × (date.day ≤ days_in_month (pos year) date.month) × (s ≡ 45 ∷ two_digits date.month ++ 45 ∷ two_digits date.day)

  month_join : (month : ℕ) (date : CivilDate) (s z : List ℕ) → Two 1 12 month s → BehindMonth month date z → MonthText date (s ++ z)
  month_join month date s z first last =
      let here : month ≡ date.month = sym last.1 in
      (last.0, omega (arith, first.0, here), omega (arith, first.1, here), last.2, rw (← here) last.3, rw (first.2, last.4, here) refl)

  abbrev month_reader : List ℕ → Result (CivilDate × List ℕ) ℕ
  month_reader rest =
      two_at 1 12 rest >>= λ month.
      either_at 45 45 month.1 >>= λ rest.
      two_at 1 (days_in_month (pos year) month.0) rest >>= λ day.
      Ok (record { year = year; month = month.0; day = day.0 }, day.1)

  month_outcome : (text : List ℕ) → Outcome CivilDate month_reader MonthText text
  month_outcome text =
      bind (two_at 1 12) (λ month text. either_at 45 45 text >>= λ rest. two_at 1 (days_in_month (pos year) month) rest >>= λ day. Ok (on month day.0, day.1)) (Two 1 12) BehindMonth MonthText
      month_join
      (λ month s is. let day = some_day month in (on month 1, 45 ∷ two_digits 1, (day.0, day.1, day.2, day.3, refl)))
      (λ month s is rest. behind_month month rest)
      text (two_outcome 1 12 (omega arith) (omega arith) (omega arith) text)

  some_month : MonthText (record { year = year; month = 1; day = 1 }) (two_digits 1 ++ 45 ∷ two_digits 1)
  some_month = let most = days_in_month_bounds (pos year) 1 in (refl, omega arith, omega arith, omega arith, omega (arith, most), refl)

  behind_year : (text : List ℕ) → Outcome CivilDate (λ text. either_at 45 45 text >>= λ rest. month_reader rest) BehindYear text
  behind_year text =
      separated_outcome 45 month_reader MonthText BehindYear
      (λ date s is. (is.0, is.1, is.2, is.3, is.4, ap (λ (t : List ℕ). 45 ∷ t) is.5))
      (record { year = year; month = 1; day = 1 }) (two_digits 1 ++ 45 ∷ two_digits 1) some_month month_outcome text

date_join : (year : ℕ) (date : CivilDate) (s z : List ℕ) → YearText year s → BehindYear year date z → DateText date (s ++ z)
date_join year date s z first last =
    let here : year ≡ date.year = sym last.0 in
    (record { year = omega (arith, first.0, here); month = (last.1, last.2); day = (last.3, rw (← here) last.4) }, rw (first.1, last.5, here) refl)

pub date_outcome : (text : List ℕ) → Outcome CivilDate date_at DateText text
unfolding date_at
date_outcome text =
    bind year_at (λ year text. either_at 45 45 text >>= λ rest. month_reader year rest) YearText BehindYear DateText
    date_join
    (λ year s is. let month = some_month year in (record { year = year; month = 1; day = 1 }, 45 ∷ two_digits 1 ++ 45 ∷ two_digits 1, (month.0, month.1, month.2, month.3, month.4, refl)))
    (λ year s is rest. behind_year year rest)
    text (year_outcome text)

-- ---- times

abbrev pub MinutesText : ℕ → List ℕ → Type 0
MinutesText seconds s = (hour : ℕ) × (minute : ℕ) × (hour ≤ 23) × (minute ≤ 59) × (seconds ≡ hour * 3600 + minute * 60) × (s ≡ two_digits hour ++ 58 ∷ two_digits minute)

abbrev MinuteText : ℕ → ℕ → List ℕ → Type 0
MinuteText hour seconds s = (minute : ℕ) × (minute ≤ 59) × (seconds ≡ hour * 3600 + minute * 60) × (s ≡ two_digits minute)

abbrev BehindHour : ℕ → ℕ → List ℕ → Type 0
BehindHour hour seconds s = (minute : ℕ) × (minute ≤ 59) × (seconds ≡ hour * 3600 + minute * 60) × (s ≡ 58 ∷ two_digits minute)

minute_reader : ℕ → List ℕ → Result (ℕ × List ℕ) ℕ
minute_reader hour rest = two_at 0 59 rest >>= λ minute. Ok (hour * 3600 + minute.0 * 60, minute.1)

behind_hour : (hour : ℕ) (text : List ℕ) → Outcome ℕ (λ text. either_at 58 58 text >>= λ rest. minute_reader hour rest) (BehindHour hour) text
unfolding minute_reader
behind_hour hour text =
    separated_outcome 58 (minute_reader hour) (MinuteText hour) (BehindHour hour)
    (λ seconds s is. (is.0, is.1, is.2, ap (λ (t : List ℕ). 58 ∷ t) is.3))
    (hour * 3600 + 0 * 60) (two_digits 0) (0, omega arith, refl, refl)
    (λ rest. mapped (two_at 0 59) (λ minute. hour * 3600 + minute * 60) (Two 0 59) (MinuteText hour) (λ minute s is. (minute, is.1, refl, is.2)) rest (two_outcome 0 59 (omega arith) (omega arith) (omega arith) rest))
    text

minutes_join : (hour seconds : ℕ) (s z : List ℕ) → Two 0 23 hour s → BehindHour hour seconds z → MinutesText seconds (s ++ z)
minutes_join hour seconds s z first last = (hour, last.0, first.1, last.1, last.2, rw (first.2, last.3) refl)

pub minutes_outcome : (text : List ℕ) → Outcome ℕ minutes_at MinutesText text
unfolding minutes_at minute_reader
minutes_outcome text =
    bind (two_at 0 23) (λ hour text. either_at 58 58 text >>= λ rest. minute_reader hour rest) (Two 0 23) BehindHour MinutesText
    minutes_join
    (λ hour s is. (hour * 3600 + 0 * 60, 58 ∷ two_digits 0, (0, omega arith, refl, refl)))
    (λ hour s is rest. behind_hour hour rest)
    text (two_outcome 0 23 (omega arith) (omega arith) (omega arith) text)

abbrev pub ClockText : ℕ → List ℕ → Type 0
ClockText seconds s = (hour : ℕ) × (minute : ℕ) × (second : ℕ) × (hour ≤ 23) × (minute ≤ 59) × (second ≤ 59) × (seconds ≡ hour * 3600 + minute * 60 + second) × (s ≡ two_digits hour ++ 58 ∷ two_digits minute ++ 58 ∷ two_digits second)

abbrev SecondText : ℕ → ℕ → List ℕ → Type 0
SecondText minutes seconds s = (second : ℕ) × (second ≤ 59) × (seconds ≡ minutes + second) × (s ≡ two_digits second)

abbrev BehindMinute : ℕ → ℕ → List ℕ → Type 0
BehindMinute minutes seconds s = (second : ℕ) × (second ≤ 59) × (seconds ≡ minutes + second) × (s ≡ 58 ∷ two_digits second)

second_reader : ℕ → List ℕ → Result (ℕ × List ℕ) ℕ
second_reader minutes rest = two_at 0 59 rest >>= λ second. Ok (minutes + second.0, second.1)

behind_minute : (minutes : ℕ) (text : List ℕ) → Outcome ℕ (λ text. either_at 58 58 text >>= λ rest. second_reader minutes rest) (BehindMinute minutes) text
unfolding second_reader
behind_minute minutes text =
    separated_outcome 58 (second_reader minutes) (SecondText minutes) (BehindMinute minutes)
    (λ seconds s is. (is.0, is.1, is.2, ap (λ (t : List ℕ). 58 ∷ t) is.3))
    (minutes + 0) (two_digits 0) (0, omega arith, refl, refl)
    (λ rest. mapped (two_at 0 59) (λ second. minutes + second) (Two 0 59) (SecondText minutes) (λ second s is. (second, is.1, refl, is.2)) rest (two_outcome 0 59 (omega arith) (omega arith) (omega arith) rest))
    text

clock_join : (minutes seconds : ℕ) (s z : List ℕ) → MinutesText minutes s → BehindMinute minutes seconds z → ClockText seconds (s ++ z)
clock_join minutes seconds s z first last =
    (first.0, first.1, last.0, first.2, first.3, last.1, omega (arith, first.4, last.2), rw (first.5, last.3) refl)

pub clock_outcome : (text : List ℕ) → Outcome ℕ clock_at ClockText text
unfolding clock_at second_reader
clock_outcome text =
    bind minutes_at (λ minutes text. either_at 58 58 text >>= λ rest. second_reader minutes rest) MinutesText BehindMinute ClockText
    clock_join
    (λ minutes s is. (minutes + 0, 58 ∷ two_digits 0, (0, omega arith, refl, refl)))
    (λ minutes s is rest. behind_minute minutes rest)
    text (minutes_outcome text)
