-- A moment that follows is later, so the first one after now is found.
use Rattle.std.proofs.Common.{◌≡◌, ℕ, zero, suc, ◌+◌, ◌-◌, ◌*◌, ◌/◌, ◌%◌, ◌<◌, ◌≤◌, ◌==◌, true, false, inl, inr, Option, Some, None, arith, refl, sym, ap, ◌∙◌, pos, min}
use Rattle.std.proofs.lemmas.Bool.{cases_lt, lt-ltb, le-ltb, ne_eqb}
use Rattle.jiff_core.specs.Calendar.{days_in_month, IsCivilDate}
use Rattle.jiff_core.proofs.SignedLemmas.{signed_arith}
use Rattle.jiff_core.proofs.CalendarLemmas.{days_in_month_bounds, day_count-lt_year, day_count-lt_month}
use Rattle.schedule_text.specs.declared.advance.Period.{Period}
use Rattle.schedule_text.specs.Range.{end_of_time, moment_of}
use Rattle.schedule_text.specs.Calendar.{CivilDate, days_to_1970, day_nanos, days_to, date_of, date_after, months_on}
use Rattle.schedule_text.specs.Firing.{sum_of, add_period, first_after, is_zero, FiresAt, Following, Missed, FiringEnds, Past, Skipped}
use Rattle.schedule_text.proofs.Calendars.{days_to-day_count, date_of-date}
use Rattle.schedule_text.proofs.Jumps.{first_step}

true_not_false : true ≡ false → ⊥
true_not_false same = cc

-- a date of a later month is later
pub later_month : (y m d later month day : ℕ) → IsCivilDate (pos y) m d → 1 ≤ month → month ≤ 12 → 1 ≤ day → y * 12 + m < later * 12 + month → days_to y m d < days_to later month day
later_month y m d later month day civil low high some after =
    let here = days_to-day_count y m d (omega (arith, civil.1)) (omega (arith, civil.1)) (omega (arith, civil.2)) in
    let there = days_to-day_count later month day low high some in
    elim (cases_lt y later) [
      | inl years ↦ omega (arith, here, there, day_count-lt_year (pos y) m d (pos later) month day civil some (omega (arith, signed_arith)))
      | inr same ↦
          let year : later ≡ y = omega (arith, civil.1) in
          omega (arith, here, rw year at there, day_count-lt_month (pos y) m d month day civil some (omega (arith, civil.1)), rw year at there, ap (λ (n : ℕ). days_to n month day) year)
    ]

date_after-later : (date : CivilDate) (months : ℕ) → IsCivilDate (pos date.year) date.month date.day → 0 < months → days_to date.year date.month date.day < days_to (date_after date months).year (date_after date months).month (date_after date months).day
unfolding date_after
date_after-later date months civil some =
    let number = date.year * 12 + (date.month - 1) + months in
    let most = days_in_month_bounds (pos (number / 12)) (number % 12 + 1) in
    later_month date.year date.month date.day (number / 12) (number % 12 + 1) (min date.day (days_in_month (pos (number / 12)) (number % 12 + 1))) civil (omega arith) (omega arith) (omega (arith, most, civil.2)) (omega (arith, civil.1))

pub months_on-later : (moment months : ℕ) → moment < end_of_time → 0 < months → moment < months_on moment months
unfolding months_on
months_on-later moment months low some =
    let is = date_of-date (moment / day_nanos) (omega arith) in
    let later = date_after-later (date_of (moment / day_nanos)) months is.civil some in
    let day : moment / day_nanos + 1 ≤ days_to (date_after (date_of (moment / day_nanos)) months).year (date_after (date_of (moment / day_nanos)) months).month (date_after (date_of (moment / day_nanos)) months).day - days_to_1970 = omega (arith, later, is.days) in
    omega (arith, day)

zero_length : (period : Period) → period.months ≡ 0 → period.nanos ≡ 0 → is_zero period ≡ true
zero_length period none nothing = rw (none, nothing) refl

-- what follows by a period of some length is later
pub sum_of-later : (moment : ℕ) (period : Period) → moment < end_of_time → is_zero period ≡ false → moment < sum_of moment period
unfolding sum_of
sum_of-later moment period low length = elim (cases_lt 0 period.months) [
  | inl some ↦
      let test : (period.months == 0) ≡ false = ne_eqb period.months 0 (λ zero_. omega arith) in
      rw test (omega (arith, months_on-later moment period.months low some))
  | inr none ↦
      let months : period.months ≡ 0 = omega arith in
      elim (cases_lt 0 period.nanos) [
        | inl some ↦ rw months (omega arith)
        | inr nothing ↦
            let nanos : period.nanos ≡ 0 = omega arith in
            let same = zero_length period months nanos in
            absurd (true_not_false (sym same ∙ length))
      ]
]

-- a moment that follows is the sum, and in range
moment_of-is : (n r : ℕ) → moment_of n ≡ Some r → (n ≡ r) × (r < end_of_time)
moment_of-is n r found = elim (cases_lt n end_of_time) [
  | inl low ↦
      let some : Some n ≡ Some r = rw (lt-ltb n end_of_time low) at found in
      let same : n ≡ r = cc in
      (same, omega arith)
  | inr high ↦
      let none : None ≡ Some r = rw (le-ltb n end_of_time high) at found in
      cc
]

add_period-later : (moment next : ℕ) (period : Period) → moment < end_of_time → is_zero period ≡ false → add_period moment period ≡ Some next → (moment < next) × (next < end_of_time)
unfolding add_period
add_period-later moment next period low length found =
    let is = moment_of-is (sum_of moment period) next found in
    (omega (arith, is.0, sum_of-later moment period low length), is.1)

first_after-zero : (period : Period) (now moment : ℕ) → first_after zero period now moment ≡ None
unfolding first_after
first_after-zero period now moment = refl

module _ (period : Period) (now : ℕ) where
  step-none : (most moment : ℕ) → add_period moment period ≡ None → first_after (suc most) period now moment ≡ None
  step-none most moment none = rw (first_step most period now moment, none) refl

  step-after : (most moment next : ℕ) → add_period moment period ≡ Some next → now < next → first_after (suc most) period now moment ≡ Some next
  step-after most moment next found after = rw (first_step most period now moment, found, lt-ltb now next after) refl

  step-missed : (most moment next : ℕ) → add_period moment period ≡ Some next → next ≤ now → first_after (suc most) period now moment ≡ first_after most period now next
  step-missed most moment next found missed = rw (first_step most period now moment, found, le-ltb now next missed) refl

  fires_by : (most moment r : ℕ) (found : Option ℕ) → add_period moment period ≡ found → first_after (suc most) period now moment ≡ Some r
      → ((next : ℕ) → first_after most period now next ≡ Some r → FiresAt period now next r) → FiresAt period now moment r
  fires_by most moment r None is first rest =
      let none : None ≡ Some r = sym (step-none most moment is) ∙ first in
      cc
  fires_by most moment r (Some next) is first rest = elim (cases_lt now next) [
    | inl after ↦
        let some : Some next ≡ Some r = sym (step-after most moment next is after) ∙ first in
        let same : next ≡ r = cc in
        Following moment r (is ∙ ap Some same) (omega (arith, same))
    | inr missed ↦ Missed moment next r is missed (rest next (sym (step-missed most moment next is missed) ∙ first))
  ]

  -- what is found is the first moment after now
  pub first_after-fires : (most moment r : ℕ) → first_after most period now moment ≡ Some r → FiresAt period now moment r
  first_after-fires zero moment r first =
      let none : None ≡ Some r = sym (first_after-zero period now moment) ∙ first in
      cc
  first_after-fires (suc most) moment r first = fires_by most moment r (add_period moment period) refl first (λ next. first_after-fires most next r)

  module _ (length : is_zero period ≡ false) where
    ends_by : (most moment : ℕ) (found : Option ℕ) → moment < end_of_time → now - moment < suc most → add_period moment period ≡ found → first_after (suc most) period now moment ≡ None
        → ((next : ℕ) → next < end_of_time → now - next < most → first_after most period now next ≡ None → FiringEnds period now next) → FiringEnds period now moment
    ends_by most moment None low enough is first rest = Past moment is
    ends_by most moment (Some next) low enough is first rest = elim (cases_lt now next) [
      | inl after ↦
          let none : Some next ≡ None = sym (step-after most moment next is after) ∙ first in
          cc
      | inr missed ↦
          let later = add_period-later moment next period low length is in
          Skipped moment next is missed (rest next later.1 (omega (arith, later.0)) (sym (step-missed most moment next is missed) ∙ first))
    ]

    -- if none is found, there is none: there are no more periods up to now than nanoseconds
    pub first_after-ends : (most moment : ℕ) → moment < end_of_time → now - moment < most → first_after most period now moment ≡ None → FiringEnds period now moment
    first_after-ends zero moment low enough first = absurd (omega arith)
    first_after-ends (suc most) moment low enough first = ends_by most moment (add_period moment period) low enough refl first (λ next. first_after-ends most next)
