-- Dates and days of the Gregorian calendar of ISO 8601, computed with years that begin on 1 March, so that a leap
-- day comes last. Days are counted from 1970-01-01 unless something else is said.
use Rattle.std.specs.Prelude.{◌≡◌, ℕ, ◌+◌, ◌-◌, ◌*◌, ◌/◌, ◌%◌, ◌<◌, ◌≤◌, min, nat_lt, if◌then◌else◌, pos, unsigned_abs}
use Rattle.jiff_core.specs.declared.civil.date.Date.{Date}
use Rattle.jiff_core.specs.Calendar.{days_in_month}

-- a date from the year 0 on, in natural numbers
pub record CivilDate : Type 0 where
  pub year : ℕ
  pub month : ℕ
  pub day : ℕ

-- the same date as `jiff` has it
abbrev pub civil_date : Date → CivilDate
civil_date d = record { year = unsigned_abs d.year; month = d.month; day = d.day }

-- days from the first day of the year -10000 to 1970-01-01
abbrev pub days_to_1970 : ℕ
days_to_1970 = 4371953

-- the nanoseconds of a day
abbrev pub day_nanos : ℕ
day_nanos = 86400000000000

-- days from the first day of the year -10000 to a day of a month, from 3 to 14, of a year that begins in March and is
-- counted from -10000
abbrev pub march_days_to : ℕ → ℕ → ℕ → ℕ
march_days_to year month day = 365 * year + year / 4 - year / 100 + year / 400 + (153 * month - 457) / 5 + day + 59

-- days from the first day of the year -10000 to a date
unfoldable pub days_to : ℕ → ℕ → ℕ → ℕ
days_to year month day = if nat_lt month 3 then march_days_to (year + 9999) (month + 12) day else march_days_to (year + 10000) month day

-- the date of a day, counted from 0, in a year that begins in March and is counted from -10000
abbrev pub date_in : ℕ → ℕ → CivilDate
date_in year day =
    if nat_lt 12 ((5 * day + 461) / 153)
    then record { year = year + 1 - 10000; month = (5 * day + 461) / 153 - 12; day = (5 * day + 461) % 153 / 5 + 1 }
    else record { year = year - 10000; month = (5 * day + 461) / 153; day = (5 * day + 461) % 153 / 5 + 1 }

-- of a day counted from 1 March of the year -10000: its century, and four times its day in that century and 3 more
abbrev pub march_century : ℕ → ℕ
march_century days = (4 * days + 3) / 146097

abbrev pub in_century : ℕ → ℕ
in_century days = (4 * days + 3) % 146097 / 4 * 4 + 3

-- the date of a day
unfoldable pub date_of : ℕ → CivilDate
date_of day =
    let days = day + days_to_1970 - 60 in
    date_in (100 * march_century days + in_century days / 1461) (in_century days % 1461 / 4)

-- the date that many months later; a day that the month lacks becomes its last day
unfoldable pub date_after : CivilDate → ℕ → CivilDate
date_after date months =
    let number = date.year * 12 + (date.month - 1) + months in
    record { year = number / 12; month = number % 12 + 1; day = min date.day (days_in_month (pos (number / 12)) (number % 12 + 1)) }

-- A date is that many months after another: its month is counted on from the other's, twelve to a year, and its day is
-- the other's, or the last one of its month if the month lacks that day.
pub record IsMonthsAfter (date : CivilDate) (months : ℕ) (after : CivilDate) : Type 0 where
  pub month : (1 ≤ after.month) × (after.month ≤ 12)
  pub counted : date.year * 12 + date.month + months ≡ after.year * 12 + after.month
  pub same_day : date.day ≤ days_in_month (pos after.year) after.month → after.day ≡ date.day
  pub last_day : days_in_month (pos after.year) after.month < date.day → after.day ≡ days_in_month (pos after.year) after.month

-- nanoseconds since 1970 that many months later, at the same time of the day
unfoldable pub months_on : ℕ → ℕ → ℕ
months_on nanos months =
    let date = date_after (date_of (nanos / day_nanos)) months in
    (days_to date.year date.month date.day - days_to_1970) * day_nanos + nanos % day_nanos
