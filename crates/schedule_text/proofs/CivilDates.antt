-- The dates and times of `jiff` in terms of this crate's definitions.
use Rattle.std.proofs.Common.{◌≡◌, ℕ, ◌/◌, ◌%◌, ◌<◌, ◌≤◌, arith, sym, ◌∙◌, pos, ◌+ℤ◌}
use Rattle.jiff_core.specs.declared.civil.date.Date.{Date}
use Rattle.jiff_core.specs.declared.civil.datetime.DateTime.{DateTime}
use Rattle.jiff_core.specs.Calendar.{IsCivilDate, days_from_civil}
use Rattle.jiff_core.specs.Date.{epoch_day}
use Rattle.jiff_core.specs.DateTime.{civil_nanos}
use Rattle.jiff_core.specs.Time.{time_nanos}
use Rattle.jiff_core.proofs.CalendarLemmas.{days_from_civil-day_count}
use Rattle.jiff_core.proofs.SignedLemmas.{signed_arith}
use Rattle.jiff.proofs.Family.{epoch_day_injective, civil_nanos-parts, time_nanos_bound}
use Rattle.schedule_text.specs.Calendar.{CivilDate, day_nanos, days_to_1970, days_to, date_of}
use Rattle.schedule_text.proofs.Calendars.{days_to-day_count, date_of-date}

-- a date that the calendar has, as `jiff` has it
has_date : (date : CivilDate) → IsCivilDate (pos date.year) date.month date.day → Date
has_date date is = record { year = pos date.year; month = date.month; day = date.day; year_in = is.0; month_in = is.1; day_in = is.2 }

-- the day number of a date is that of the days to it
pub days_from_civil-days_to : (y m d : ℕ) → 1 ≤ m → m ≤ 12 → 1 ≤ d → days_from_civil (pos y) m d +ℤ pos days_to_1970 ≡ pos (days_to y m d)
days_from_civil-days_to y m d low high some =
    omega (arith, signed_arith, days_from_civil-day_count (pos y) m d, days_to-day_count y m d low high some)

-- the parts of the date of a day
pub record IsDayOf (day : ℕ) (d : Date) : Type 0 where
  pub year : d.year ≡ pos (date_of day).year
  pub month : d.month ≡ (date_of day).month
  pub day_is : d.day ≡ (date_of day).day

pub epoch_day-date_of : (d : Date) (day : ℕ) → day < 2932532 → epoch_day d ≡ pos day → IsDayOf day d
unfolding has_date
epoch_day-date_of d day low is =
    let of = date_of-date day low in
    let civil = of.civil in
    let there = days_from_civil-days_to (date_of day).year (date_of day).month (date_of day).day civil.1.0 civil.1.1 civil.2.0 in
    let number : days_from_civil (pos (date_of day).year) (date_of day).month (date_of day).day ≡ pos day = omega (arith, signed_arith, there, of.days) in
    let same = epoch_day_injective d (has_date (date_of day) civil) (is ∙ sym number) in
    record { year = same.0; month = same.1; day_is = same.2 }

-- the day and the time of the day
pub civil_nanos-day : (dt : DateTime) (nanos : ℕ) → civil_nanos dt ≡ pos nanos → (epoch_day dt.date ≡ pos (nanos / day_nanos)) × (time_nanos dt.time ≡ nanos % day_nanos)
civil_nanos-day dt nanos is =
    let parts = civil_nanos-parts dt in
    let bound = time_nanos_bound dt.time in
    omega (arith, signed_arith)
