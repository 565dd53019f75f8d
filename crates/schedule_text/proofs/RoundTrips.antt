-- What is printed for a moment reads as that moment.
use Rattle.std.proofs.Common.{◌≡◌, ℕ, ◌+◌, ◌-◌, ◌*◌, ◌/◌, ◌%◌, ◌<◌, ◌≤◌, true, false, inl, inr, List, [], ◌∷◌, ◌++◌, arith, refl, ap, ◌∙◌, pos, Result, Ok, ◌==◌}
use Rattle.std.proofs.lemmas.Bool.{le-leb, lt-ltb, le-ltb, cases_lt, ne_eqb}
use Rattle.std.specs.Int.{IsInRange}
use Rattle.jiff_core.specs.Calendar.{days_in_month}
use Rattle.jiff_core.proofs.CalendarLemmas.{days_in_month_bounds}
use Rattle.schedule_text.specs.Range.{end_of_time}
use Rattle.schedule_text.specs.Calendar.{CivilDate, days_to_1970, day_nanos, days_to, date_of}
use Rattle.jiff_core.proofs.SignedLemmas.{signed_arith}
use Rattle.schedule_text.specs.Numbers.{is_digit, begins_with_digit, billionths_from, behind_billionths, first_weight, billionth}
use Rattle.schedule_text.specs.Moments.{two_at, year_at, date_at, minutes_at, clock_at, subsecond_at, instant_at, moment_at, read_moment, two_digits, nine_digits, date_text, clock_text, subsecond_text, moment_text}
use Rattle.schedule_text.proofs.Calendars.{date_of-date}

pub digit : (d : ℕ) → d ≤ 9 → is_digit (48 + d) ≡ true
digit d low = rw (le-leb 48 (48 + d) (omega arith), le-leb (48 + d) 57 (omega arith)) refl

-- two digits read as their number
pub two_at-two : (low high n : ℕ) (rest : List ℕ) → low ≤ n → n ≤ high → high ≤ 99 → two_at low high (two_digits n ++ rest) ≡ Ok (n, rest)
two_at-two low high n rest above below small =
    let tens : 48 + n / 10 - 48 ≡ n / 10 = omega arith in
    let ones : 48 + n % 10 - 48 ≡ n % 10 = omega arith in
    let whole : n / 10 * 10 + n % 10 ≡ n = omega arith in
    rw (digit (n / 10) (omega arith), digit (n % 10) (omega arith), tens, ones, whole, le-leb (n / 10) (high / 10) (omega arith), le-leb low n above, le-leb n high below) refl

pub date_at-text : (date : CivilDate) (rest : List ℕ) → date.year ≤ 9999 → IsInRange 1 12 date.month → IsInRange 1 (days_in_month (pos date.year) date.month) date.day → date_at (date_text date ++ rest) ≡ Ok (date, rest)
unfolding date_at year_at
date_at-text date rest year month day =
    let whole : date.year / 100 * 100 + date.year % 100 ≡ date.year = omega arith in
    let most = days_in_month_bounds (pos date.year) date.month in
    rw (two_at-two 0 99 (date.year / 100) _ (omega arith) (omega arith) (omega arith), two_at-two 0 99 (date.year % 100) _ (omega arith) (omega arith) (omega arith), two_at-two 1 12 date.month _ (omega arith) (omega arith) (omega arith), whole, two_at-two 1 (days_in_month (pos date.year) date.month) date.day rest (omega arith) (omega arith) (omega (arith, most))) refl

clock_at-text : (seconds : ℕ) (rest : List ℕ) → seconds < 86400 → clock_at (clock_text seconds ++ rest) ≡ Ok (seconds, rest)
unfolding clock_at minutes_at
clock_at-text seconds rest short =
    let whole : seconds / 3600 * 3600 + seconds / 60 % 60 * 60 + seconds % 60 ≡ seconds = omega arith in
    rw (two_at-two 0 23 (seconds / 3600) _ (omega arith) (omega arith) (omega arith), two_at-two 0 59 (seconds / 60 % 60) _ (omega arith) (omega arith) (omega arith), two_at-two 0 59 (seconds % 60) rest (omega arith) (omega arith) (omega arith), whole) refl

pub not_zero : (n : ℕ) → 0 < n → (n == 0) ≡ false
not_zero n some = ne_eqb n 0 (λ zero. omega arith)

-- a digit behind a point
billionths-digit : (weight n d : ℕ) (rest : List ℕ) → d ≤ 9 → 0 < weight → billionths_from weight n ((48 + d) ∷ rest) ≡ billionths_from (weight / 10) (n + d * weight) rest
billionths-digit weight n d rest low some =
    let same : 48 + d - 48 ≡ d = omega arith in
    rw (digit d low, not_zero weight some, same) refl

behind-digit : (weight d : ℕ) (rest : List ℕ) → d ≤ 9 → 0 < weight → behind_billionths weight ((48 + d) ∷ rest) ≡ behind_billionths (weight / 10) rest
behind-digit weight d rest low some = rw (digit d low, not_zero weight some) refl

behind_nine : (n : ℕ) (rest : List ℕ) → n < 1000000000 → behind_billionths first_weight (nine_digits n ++ rest) ≡ behind_billionths 0 rest
behind_nine n rest low =
    rw (
      behind-digit 100000000 (n / 100000000) _ (omega arith) (omega arith),
      behind-digit 10000000 (n / 1000000 % 100 / 10) _ (omega arith) (omega arith),
      behind-digit 1000000 (n / 1000000 % 100 % 10) _ (omega arith) (omega arith),
      behind-digit 100000 (n / 10000 % 100 / 10) _ (omega arith) (omega arith),
      behind-digit 10000 (n / 10000 % 100 % 10) _ (omega arith) (omega arith),
      behind-digit 1000 (n / 100 % 100 / 10) _ (omega arith) (omega arith),
      behind-digit 100 (n / 100 % 100 % 10) _ (omega arith) (omega arith),
      behind-digit 10 (n % 100 / 10) _ (omega arith) (omega arith),
      behind-digit 1 (n % 100 % 10) _ (omega arith) (omega arith),
    ) refl

billionths_nine : (n : ℕ) (rest : List ℕ) → n < 1000000000 → billionths_from first_weight 0 (nine_digits n ++ rest) ≡ billionths_from 0 n rest
billionths_nine n rest low =
    let a = n / 100000000 in
    let b = n / 1000000 % 100 in
    let c = n / 10000 % 100 in
    let d = n / 100 % 100 in
    let e = n % 100 in
    let whole : 0 + a * 100000000 + (b / 10) * 10000000 + (b % 10) * 1000000 + (c / 10) * 100000 + (c % 10) * 10000 + (d / 10) * 1000 + (d % 10) * 100 + (e / 10) * 10 + (e % 10) * 1 ≡ n = omega arith in
    billionths-digit 100000000 (0) a (two_digits b ++ two_digits c ++ two_digits d ++ two_digits e ++ rest) (omega arith) (omega arith)
    ∙ billionths-digit 10000000 (0 + a * 100000000) (b / 10) ((48 + b % 10) ∷ two_digits c ++ two_digits d ++ two_digits e ++ rest) (omega arith) (omega arith)
    ∙ billionths-digit 1000000 (0 + a * 100000000 + (b / 10) * 10000000) (b % 10) (two_digits c ++ two_digits d ++ two_digits e ++ rest) (omega arith) (omega arith)
    ∙ billionths-digit 100000 (0 + a * 100000000 + (b / 10) * 10000000 + (b % 10) * 1000000) (c / 10) ((48 + c % 10) ∷ two_digits d ++ two_digits e ++ rest) (omega arith) (omega arith)
    ∙ billionths-digit 10000 (0 + a * 100000000 + (b / 10) * 10000000 + (b % 10) * 1000000 + (c / 10) * 100000) (c % 10) (two_digits d ++ two_digits e ++ rest) (omega arith) (omega arith)
    ∙ billionths-digit 1000 (0 + a * 100000000 + (b / 10) * 10000000 + (b % 10) * 1000000 + (c / 10) * 100000 + (c % 10) * 10000) (d / 10) ((48 + d % 10) ∷ two_digits e ++ rest) (omega arith) (omega arith)
    ∙ billionths-digit 100 (0 + a * 100000000 + (b / 10) * 10000000 + (b % 10) * 1000000 + (c / 10) * 100000 + (c % 10) * 10000 + (d / 10) * 1000) (d % 10) (two_digits e ++ rest) (omega arith) (omega arith)
    ∙ billionths-digit 10 (0 + a * 100000000 + (b / 10) * 10000000 + (b % 10) * 1000000 + (c / 10) * 100000 + (c % 10) * 10000 + (d / 10) * 1000 + (d % 10) * 100) (e / 10) ((48 + e % 10) ∷ rest) (omega arith) (omega arith)
    ∙ billionths-digit 1 (0 + a * 100000000 + (b / 10) * 10000000 + (b % 10) * 1000000 + (c / 10) * 100000 + (c % 10) * 10000 + (d / 10) * 1000 + (d % 10) * 100 + (e / 10) * 10) (e % 10) (rest) (omega arith) (omega arith)
    ∙ ap (λ (k : ℕ). billionths_from 0 k rest) whole

-- a point and digits
subsecond_at-point : (digits : List ℕ) → begins_with_digit digits ≡ true → subsecond_at (46 ∷ digits) ≡ Ok (billionths_from first_weight 0 digits, behind_billionths first_weight digits)
subsecond_at-point digits some = rw some refl

abbrev read : ℕ → List ℕ → Result (ℕ × List ℕ) ℕ
read n rest = Ok (n, rest)

same_read : (n m : ℕ) (rest behind : List ℕ) → n ≡ m → rest ≡ behind → read n rest ≡ read m behind
same_read n m rest behind number left = rw (number, left) refl

subsecond_at-nine : (nanos : ℕ) → nanos < 1000000000 → subsecond_at (46 ∷ nine_digits nanos ++ 90 ∷ []) ≡ Ok (nanos, 90 ∷ [])
subsecond_at-nine nanos low =
    subsecond_at-point (nine_digits nanos ++ 90 ∷ []) (digit (nanos / 100000000) (omega arith))
    ∙ same_read _ nanos _ (90 ∷ []) (billionths_nine nanos (90 ∷ []) low) (behind_nine nanos (90 ∷ []) low)

subsecond_at-text : (nanos : ℕ) → nanos < 1000000000 → subsecond_at (subsecond_text nanos ++ 90 ∷ []) ≡ Ok (nanos, 90 ∷ [])
subsecond_at-text nanos low = elim (cases_lt 0 nanos) [
  | inl some ↦
      let text : subsecond_text nanos ≡ 46 ∷ nine_digits nanos = rw (not_zero nanos some) refl in
      ap (λ (t : List ℕ). subsecond_at (t ++ 90 ∷ [])) text ∙ subsecond_at-nine nanos low
  | inr none ↦ let zero_ : nanos ≡ 0 = omega arith in rw zero_ refl
]

-- the instant of a printed date and time
instant_at-text : (date : CivilDate) (seconds nanos : ℕ) → date.year ≤ 9999 → IsInRange 1 12 date.month → IsInRange 1 (days_in_month (pos date.year) date.month) date.day → seconds < 86400 → nanos < 1000000000
    → instant_at (date_text date ++ 84 ∷ clock_text seconds ++ subsecond_text nanos ++ 90 ∷ []) ≡ Ok (days_to date.year date.month date.day * 86400 + seconds - 0, nanos)
unfolding instant_at
instant_at-text date seconds nanos year month day short low =
    rw (date_at-text date (84 ∷ clock_text seconds ++ subsecond_text nanos ++ 90 ∷ []) year month day, clock_at-text seconds (subsecond_text nanos ++ 90 ∷ []) short, subsecond_at-text nanos low) refl

-- a moment's day, the seconds of that day and the nanoseconds make the moment
moment_at-parts : (moment days : ℕ) → moment < end_of_time → days ≡ moment / day_nanos + days_to_1970 → moment_at (days * 86400 + moment % day_nanos / billionth - 0, moment % billionth) ≡ Ok moment
moment_at-parts moment days low is =
    let late : days_to_1970 * 86400 ≤ days * 86400 + moment % day_nanos / billionth - 0 = omega arith in
    let whole : (days * 86400 + moment % day_nanos / billionth - 0 - days_to_1970 * 86400) * billionth + moment % billionth ≡ moment = omega arith in
    rw (le-ltb _ _ late, whole, lt-ltb moment end_of_time low) refl

-- what is printed for a moment reads as that moment
pub read_moment-moment_text : (moment : ℕ) → moment < end_of_time → read_moment (moment_text moment) ≡ Ok moment
unfolding read_moment moment_text
read_moment-moment_text moment low =
    let is = date_of-date (moment / day_nanos) (omega arith) in
    let civil = is.civil in
    rw (instant_at-text (date_of (moment / day_nanos)) (moment % day_nanos / billionth) (moment % billionth) (omega (arith, signed_arith, civil.0)) civil.1 civil.2 (omega arith) (omega arith)) (moment_at-parts moment (days_to (date_of (moment / day_nanos)).year (date_of (moment / day_nanos)).month (date_of (moment / day_nanos)).day) low is.days)
