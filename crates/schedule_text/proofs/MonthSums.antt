-- The months that `jiff` adds are those of the definition.
use Rattle.std.proofs.Common.{◌≡◌, ℕ, ◌+◌, ◌-◌, ◌*◌, ◌/◌, ◌%◌, ◌<◌, ◌≤◌, inl, inr, arith, refl, pos, ◌+ℤ◌, ◌*ℤ◌, Some, None, Result, Ok, Err}
use Rattle.std.specs.Result.{result_ok, IsOk}
use Rattle.std.proofs.lemmas.Bool.{cases_lt}
use Rattle.jiff_core.specs.declared.civil.datetime.DateTime.{DateTime}
use Rattle.jiff_core.specs.declared.span.Span.{Span}
use Rattle.jiff_core.specs.declared.unit.Unit.TheVariants.{Month}
use Rattle.jiff_core.specs.Calendar.{IsCivilDate, days_in_month, days_from_civil}
use Rattle.jiff_core.specs.DateTime.{civil_nanos}
use Rattle.jiff_core.specs.Span.{IsOnly, span_months, span_days, clock_nanos}
use Rattle.jiff_core.proofs.CalendarLemmas.{days_in_month_bounds}
use Rattle.jiff_core.proofs.SignedLemmas.{signed_arith}
use Rattle.jiff_span.specs.Add.{datetime_add, CanAddToDateTime}
use Rattle.jiff_span.specs.Months.{add_months, shifted_year}
use Rattle.schedule_text.specs.Range.{end_of_time}
use Rattle.schedule_text.specs.Calendar.{CivilDate, day_nanos, days_to_1970, days_to, date_of, date_after, IsMonthsAfter, months_on}
use Rattle.schedule_text.proofs.Calendars.{date_of-date}
use Rattle.schedule_text.proofs.CivilDates.{days_from_civil-days_to, epoch_day-date_of, civil_nanos-day}
use Rattle.schedule_text.proofs.Progress.{later_month}

-- the date that many months later is one that the calendar has, except for the range of its year
record IsAfter (date : CivilDate) (months : ℕ) (after : CivilDate) : Type 0 where
  pub month : (1 ≤ after.month) × (after.month ≤ 12)
  pub day : (1 ≤ after.day) × (after.day ≤ days_in_month (pos after.year) after.month)
  pub year : date.year * 12 + (date.month - 1) + months < after.year * 12 + 12

date_after-is : (date : CivilDate) (months : ℕ) → 1 ≤ date.day → IsAfter date months (date_after date months)
unfolding date_after
date_after-is date months some =
    let number = date.year * 12 + (date.month - 1) + months in
    let most = days_in_month_bounds (pos (number / 12)) (number % 12 + 1) in
    record { month = omega arith; day = omega (arith, most); year = omega arith }

-- the date that many months later is in the month that is counted on to, with its day cut to that month
pub date_after-months : (date : CivilDate) (months : ℕ) → 1 ≤ date.month → IsMonthsAfter date months (date_after date months)
unfolding date_after
date_after-months date months some =
    record { month = omega arith; counted = omega arith; same_day = λ there. omega arith; last_day = λ lacking. omega arith }

-- the first day that is past the last moment
last_day : days_to 9998 12 31 ≡ 2932531 + days_to_1970
unfolding days_to
last_day = refl

day_before_1970 : days_to 1969 12 31 + 1 ≡ days_to_1970
unfolding days_to
day_before_1970 = refl

day_of_1970 : days_to 1970 1 1 ≡ days_to_1970
unfolding days_to
day_of_1970 = refl

first_day : days_to 9999 1 1 ≡ 2932532 + days_to_1970
unfolding days_to
first_day = refl

module _ (nanos months : ℕ) (low : nanos < end_of_time) where
  abbrev after : CivilDate
  after = date_after (date_of (nanos / day_nanos)) months

  is_after : IsAfter (date_of (nanos / day_nanos)) months after
  is_after =
      let civil = (date_of-date (nanos / day_nanos) (omega arith)).civil in
      date_after-is (date_of (nanos / day_nanos)) months civil.2.0

  -- no date of a moment is before 1970
  since_1970 : 1970 ≤ (date_of (nanos / day_nanos)).year
  since_1970 =
      let of = date_of-date (nanos / day_nanos) (omega arith) in
      elim (cases_lt (date_of (nanos / day_nanos)).year 1970) [
        | inl before ↦
            let later = later_month (date_of (nanos / day_nanos)).year (date_of (nanos / day_nanos)).month (date_of (nanos / day_nanos)).day 1970 1 1 of.civil (omega arith) (omega arith) (omega arith) (omega (arith, of.civil.1)) in
            absurd (omega (arith, later, day_of_1970, of.days))
        | inr since ↦ since
      ]

  days_to_after : days_to_1970 ≤ days_to after.year after.month after.day
  days_to_after =
      let is = is_after in
      let since = since_1970 in
      let civil : IsCivilDate (pos 1969) 12 31 = (omega (arith, signed_arith), (omega arith, omega arith), (omega arith, omega arith)) in
      let later = later_month 1969 12 31 after.year after.month after.day civil is.month.0 is.month.1 is.day.0 (omega (arith, is.year)) in
      omega (arith, later, day_before_1970)

  -- a sum of months is at the same time of the day, on the day of that date
  pub months_on-day : (months_on nanos months / day_nanos + days_to_1970 ≡ days_to after.year after.month after.day) × (months_on nanos months % day_nanos ≡ nanos % day_nanos)
  unfolding months_on
  months_on-day =
      let since = days_to_after in
      (omega arith, omega arith)

  -- from the year 9999 on, a sum is past the last moment
  pub months_on-end : 9999 ≤ after.year → end_of_time ≤ months_on nanos months
  unfolding months_on
  months_on-end late =
      let is = is_after in
      let civil : IsCivilDate (pos 9998) 12 31 = (omega (arith, signed_arith), (omega arith, omega arith), (omega arith, omega arith)) in
      let later = later_month 9998 12 31 after.year after.month after.day civil is.month.0 is.month.1 is.day.0 (omega arith) in
      omega (arith, later, last_day)

  -- before the year 9999 none is
  pub months_on-before_end : after.year < 9999 → months_on nanos months < end_of_time
  unfolding months_on
  months_on-before_end early =
      let is = is_after in
      let civil : IsCivilDate (pos after.year) after.month after.day = (omega (arith, signed_arith), is.month, is.day) in
      let later = later_month after.year after.month after.day 9999 1 1 civil (omega arith) (omega arith) (omega arith) (omega arith) in
      omega (arith, later, first_day)

  -- more months than there are between two moments lead past the last one
  pub months_on-many : 119988 < months → end_of_time ≤ months_on nanos months
  months_on-many many =
      let is = is_after in
      months_on-end (omega (arith, is.year))

  module _ (dt : DateTime) (shows : civil_nanos dt ≡ pos nanos) where
    shifted_year-after : shifted_year dt.date (pos months) ≡ pos after.year
    unfolding date_after
    shifted_year-after =
        let is = civil_nanos-day dt nanos shows in
        let date = epoch_day-date_of dt.date (nanos / day_nanos) (omega arith) is.0 in
        rw (date.year, date.month) refl

    add_months-after : add_months dt.date (pos months) ≡ days_from_civil (pos after.year) after.month after.day
    unfolding date_after
    add_months-after =
        let is = civil_nanos-day dt nanos shows in
        let date = epoch_day-date_of dt.date (nanos / day_nanos) (omega arith) is.0 in
        rw (date.year, date.month, date.day_is) refl

    sum_of_days : add_months dt.date (pos months) *ℤ pos day_nanos +ℤ pos (nanos % day_nanos) ≡ pos (months_on nanos months)
    unfolding months_on
    sum_of_days =
        let is = is_after in
        let days = days_from_civil-days_to after.year after.month after.day is.month.0 is.month.1 is.day.0 in
        omega (arith, signed_arith, add_months-after, days, days_to_after)

    module _ (span : Span) (only : IsOnly Month (pos months) span) where
      -- the date and time that many months later
      pub datetime_add-months : datetime_add dt span ≡ pos (months_on nanos months)
      datetime_add-months =
          let is = civil_nanos-day dt nanos shows in
          let month : span_months span ≡ pos months = omega (arith, signed_arith, only.months) in
          let day : span_days span ≡ pos 0 = omega (arith, signed_arith, only.days) in
          let clock : clock_nanos span ≡ pos 0 = omega (arith, signed_arith, only.clock) in
          rw (month, day, clock, is.1) (omega (arith, signed_arith, sum_of_days))

      -- is one that `jiff` has
      pub can_add-months : after.year < 9999 → CanAddToDateTime dt span
      can_add-months early =
          let month : span_months span ≡ pos months = omega (arith, signed_arith, only.months) in
          let sum = datetime_add-months in
          let before = months_on-before_end early in
          (rw (month, shifted_year-after) (omega (arith, signed_arith)), rw sum (omega (arith, signed_arith)))

-- a result whose value was taken is Ok
pub ok_of-some : {T E : Type 0} → (r : Result T E) (x : T) → result_ok r ≡ Some x → r ≡ Ok x
ok_of-some (Ok y) x is = cc
ok_of-some (Err e) x is = cc

pub ok_of-none : {T E : Type 0} → (r : Result T E) → IsOk r → result_ok r ≡ None → ⊥
ok_of-none (Ok y) ok is = cc
ok_of-none (Err e) ok is = cc
