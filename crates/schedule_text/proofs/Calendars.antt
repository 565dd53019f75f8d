-- The dates of this crate are those of the calendar: they have its days, and its months have them.
use Rattle.std.proofs.Common.{◌≡◌, ℕ, suc, ◌+◌, ◌-◌, ◌*◌, ◌/◌, ◌%◌, ◌<◌, ◌≤◌, inl, inr, arith, refl, ap, sym, pos}
use Rattle.std.proofs.lemmas.Bool.{cases_lt, lt-ltb, le-ltb}
use Rattle.jiff_core.specs.Calendar.{day_count, IsCivilDate}
use Rattle.jiff_core.specs.March.{march_days, march_months}
use Rattle.jiff_core.proofs.SignedLemmas.{signed_arith}
use Rattle.jiff_core.proofs.MarchLemmas.{leap_day, march_days-suc, leap_day-shift, day_count-early, day_count-late, month_and_day, day_in_month, day_in_early_month}
use Rattle.schedule_text.specs.Calendar.{CivilDate, days_to_1970, days_to, march_century, in_century, date_in, date_of}

-- the days to a date are the calendar's, which adds up the days of years and months
pub days_to-day_count : (y m d : ℕ) → 1 ≤ m → m ≤ 12 → 1 ≤ d → days_to y m d ≡ day_count (pos y) m d
unfolding days_to
days_to-day_count y m d low high some = elim (cases_lt m 3) [
  | inl early ↦ rw (lt-ltb m 3 early) (sym (day_count-early (pos y) (y + 9999) m d (ap pos (omega arith)) low (omega arith) some))
  | inr late ↦ rw (le-ltb m 3 late) (sym (day_count-late (pos y) (y + 10000) m d (ap pos (omega arith)) late high some))
]

abbrev march_year : ℕ → ℕ
march_year days = 100 * march_century days + in_century days / 1461

abbrev march_day : ℕ → ℕ
march_day days = in_century days % 1461 / 4

march_year-days : (days : ℕ) → march_days (march_year days) + march_day days ≡ days
march_year-days days = omega arith

march_year-next : (days : ℕ) → days < march_days (march_year days + 1)
march_year-next days = omega arith

march_day-bound : (days : ℕ) → march_day days < 366
march_day-bound days = omega arith

-- a day of a year that begins in March, as a month from 3 to 14 and its day
abbrev scaled : ℕ → ℕ
scaled day = 5 * day + 461

-- a date that the calendar has, of that day
pub record IsDateOf (day : ℕ) (date : CivilDate) : Type 0 where
  pub civil : IsCivilDate (pos date.year) date.month date.day
  pub days : days_to date.year date.month date.day ≡ day + days_to_1970

days_to-late : (y m d : ℕ) → 3 ≤ m → days_to y m d ≡ march_days (y + 10000) + march_months m + d + 59
unfolding days_to
days_to-late y m d late = rw (le-ltb m 3 late) refl

days_to-early : (y m d : ℕ) → m < 3 → days_to y m d ≡ march_days (y + 9999) + march_months (m + 12) + d + 59
unfolding days_to
days_to-early y m d early = rw (lt-ltb m 3 early) refl

-- a day of January or February is in the calendar, since the year of that February has its leap day
leap_room : (n k : ℕ) → march_days n + k < march_days (n + 1) → k < 365 + leap_day (pos (n + 1))
leap_room n k within =
    let more : suc n ≡ n + 1 = omega arith in
    let next = march_days-suc n in
    let same = rw more at next in
    omega (arith, same)

module _ (n k day : ℕ) (since : 10000 ≤ n) (until : n < 19999) (short : k < 366) (is : march_days n + k + 60 ≡ day + days_to_1970) (within : march_days n + k < march_days (n + 1)) where
  early_date : 12 < scaled k / 153 → IsDateOf day (record { year = n + 1 - 10000; month = scaled k / 153 - 12; day = scaled k % 153 / 5 + 1 })
  early_date early =
      let room = leap_room n k within in
      let shift = leap_day-shift (pos (n + 1 - 10000)) (n + 1) (ap pos (omega arith)) in
      let back : n + 1 - 10000 + 9999 ≡ n = omega arith in
      let month : scaled k / 153 - 12 + 12 ≡ scaled k / 153 = omega arith in
      let sum = days_to-early (n + 1 - 10000) (scaled k / 153 - 12) (scaled k % 153 / 5 + 1) (omega arith) in
      record {
        civil = (omega (arith, signed_arith), (omega arith, omega arith), (omega arith, day_in_early_month (pos (n + 1 - 10000)) k early (omega (arith, room, shift))));
        days = omega (arith, rw (back, month) at sum, month_and_day k short, is);
      }

  late_date : scaled k / 153 ≤ 12 → IsDateOf day (record { year = n - 10000; month = scaled k / 153; day = scaled k % 153 / 5 + 1 })
  late_date late =
      let back : n - 10000 + 10000 ≡ n = omega arith in
      let sum = days_to-late (n - 10000) (scaled k / 153) (scaled k % 153 / 5 + 1) (omega arith) in
      record {
        civil = (omega (arith, signed_arith), (omega arith, omega arith), (omega arith, day_in_month (pos (n - 10000)) k late));
        days = omega (arith, rw back at sum, month_and_day k short, is);
      }

  pub date_in-date : IsDateOf day (date_in n k)
  date_in-date = elim (cases_lt 12 (scaled k / 153)) [
    | inl early ↦ rw (lt-ltb 12 (scaled k / 153) early) (early_date early)
    | inr late ↦ rw (le-ltb 12 (scaled k / 153) late) (late_date late)
  ]

-- the date of a day is a date that the calendar has, and the days to it are those
pub date_of-date : (day : ℕ) → day < 2932532 → IsDateOf day (date_of day)
unfolding date_of
date_of-date day low =
    let days = march_year-days (day + 4371953 - 60) in
    let next = march_year-next (day + 4371953 - 60) in
    date_in-date (march_year (day + 4371953 - 60)) (march_day (day + 4371953 - 60)) day (omega arith) (omega arith) (march_day-bound (day + 4371953 - 60)) (omega (arith, days)) (omega (arith, days, next))
