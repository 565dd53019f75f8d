-- What a clock shows is the instant that a text of the same parts stands for.
use Rattle.std.proofs.Common.{◌≡◌, ℕ, ◌+◌, ◌-◌, ◌*◌, ◌<◌, ◌≤◌, Bool, true, false, arith, refl, sym, ap, ◌∙◌, ℤ, pos, negsuc, ◌+ℤ◌, ◌-ℤ◌, ◌*ℤ◌, ◌≤ℤ◌, unsigned_abs, Option, None, Some}
use Rattle.std.proofs.lemmas.Bool.{lt-ltb, le-ltb}
use Rattle.std.proofs.lemmas.Int.{by_lt_z}
use Rattle.std.specs.Option.{ok_or}
use Rattle.jiff_core.specs.declared.civil.date.Date.{Date}
use Rattle.jiff_core.specs.declared.civil.datetime.DateTime.{DateTime}
use Rattle.jiff_core.specs.declared.offset.Offset.{Offset}
use Rattle.jiff_core.specs.Calendar.{days_from_civil}
use Rattle.jiff_core.specs.Date.{epoch_day}
use Rattle.jiff_core.specs.DateTime.{civil_nanos, civil_seconds}
use Rattle.jiff_core.specs.Sign.{signed}
use Rattle.jiff_core.specs.Time.{time_seconds}
use Rattle.jiff_core.specs.Timestamp.{nanos_of_seconds}
use Rattle.jiff_core.proofs.SignedLemmas.{signed_arith, one_part}
use Rattle.jiff.proofs.Family.{civil_nanos-civil_seconds, epoch_day_range}
use Rattle.schedule_text.specs.declared.error.ScheduleError.TheVariants.{OutOfRange}
use Rattle.schedule_text.specs.Range.{moment_from}
use Rattle.schedule_text.specs.Calendar.{days_to_1970, days_to, civil_date}
use Rattle.schedule_text.specs.Moments.{utc_seconds, instant_of, moment_at, in_range}
use Rattle.schedule_text.specs.Numbers.{billionth}
use Rattle.schedule_text.proofs.CivilDates.{days_from_civil-days_to}

civil_seconds-parts : (dt : DateTime) → civil_seconds dt ≡ epoch_day dt.date *ℤ pos 86400 +ℤ pos (time_seconds dt.time)
unfolding civil_seconds
civil_seconds-parts dt = refl

-- the day number of a date from the year 0 on
epoch_day-days_to : (d : Date) → pos 0 ≤ℤ d.year → epoch_day d +ℤ pos days_to_1970 ≡ pos (days_to (civil_date d).year d.month d.day)
epoch_day-days_to d late =
    let year : d.year ≡ pos (unsigned_abs d.year) = omega (arith, signed_arith, one_part d.year) in
    ap (λ (y : ℤ). days_from_civil y d.month d.day +ℤ pos days_to_1970) year ∙ days_from_civil-days_to (unsigned_abs d.year) d.month d.day d.month_in.0 d.month_in.1 d.day_in.0

-- the seconds in UTC are those that the clock shows, less its offset
utc_seconds-signed : (local : ℕ) (behind : Bool) (offset : ℕ) (seconds : ℤ) → offset ≤ local → seconds ≡ pos local -ℤ signed behind offset → utc_seconds local (behind, offset) ≡ unsigned_abs seconds
utc_seconds-signed local true offset seconds far is = omega (arith, signed_arith, one_part seconds)
utc_seconds-signed local false offset seconds far is = omega (arith, signed_arith, one_part seconds)

abbrev instant : ℕ → ℕ → ℕ × ℕ
instant seconds nanos = (seconds, nanos)

-- the seconds of a text are those of the date and time that it shows
pub utc_seconds-shown : (dt : DateTime) (offset : Offset) (zone : Bool × ℕ) → pos 0 ≤ℤ dt.date.year → zone.1 ≤ 86340 → offset.seconds ≡ signed zone.0 zone.1
    → utc_seconds (days_to (civil_date dt.date).year dt.date.month dt.date.day * 86400 + time_seconds dt.time) zone ≡ (instant_of (dt, offset)).0
utc_seconds-shown dt offset zone late small is =
    let day = epoch_day-days_to dt.date late in
    let parts = civil_seconds-parts dt in
    let range = epoch_day_range dt.date in
    utc_seconds-signed _ zone.0 zone.1 (civil_seconds dt -ℤ offset.seconds +ℤ pos (days_to_1970 * 86400)) (omega (arith, signed_arith)) (omega (arith, signed_arith))

-- the moment of an instant is the one at which a clock shows it
since_1970 : (seconds : ℤ) (nanos : ℕ) → pos 0 ≤ℤ seconds → moment_at (unsigned_abs (seconds +ℤ pos (days_to_1970 * 86400)), nanos) ≡ in_range (moment_from (nanos_of_seconds seconds +ℤ pos nanos))
since_1970 (pos s) nanos late =
    let known : days_to_1970 * 86400 ≤ s + days_to_1970 * 86400 = omega arith in
    let back : s + days_to_1970 * 86400 - days_to_1970 * 86400 ≡ s = omega arith in
    rw (le-ltb _ _ known, back) refl
since_1970 (negsuc s) nanos late = absurd (omega (arith, signed_arith))

before_1970 : (seconds : ℤ) (total : ℤ) (nanos : ℕ) → seconds ≤ℤ negsuc 0 → negsuc 377736739199 ≤ℤ seconds → nanos < billionth → total ≡ nanos_of_seconds seconds +ℤ pos nanos → moment_at (unsigned_abs (seconds +ℤ pos (days_to_1970 * 86400)), nanos) ≡ in_range (moment_from total)
before_1970 seconds (pos t) nanos early low short is = absurd (omega (arith, signed_arith))
before_1970 seconds (negsuc t) nanos early low short is =
    let known : unsigned_abs (seconds +ℤ pos (days_to_1970 * 86400)) < days_to_1970 * 86400 = omega (arith, signed_arith, one_part (seconds +ℤ pos (days_to_1970 * 86400))) in
    rw (lt-ltb _ _ known) refl

pub moment_at-shown : (dt : DateTime) (offset : Offset) → moment_at (instant_of (dt, offset)) ≡ in_range (moment_from (civil_nanos dt -ℤ nanos_of_seconds offset.seconds))
moment_at-shown dt offset =
    let seconds = civil_seconds dt -ℤ offset.seconds in
    let total = civil_nanos dt -ℤ nanos_of_seconds offset.seconds in
    let is : total ≡ nanos_of_seconds seconds +ℤ pos dt.time.subsec_nanosecond = omega (arith, signed_arith, civil_nanos-civil_seconds dt) in
    let parts = civil_seconds-parts dt in
    let range = epoch_day_range dt.date in
    by_lt_z seconds (pos 0)
    (λ early. before_1970 seconds total dt.time.subsec_nanosecond (omega (arith, signed_arith)) (omega (arith, signed_arith)) dt.time.subsec_in is)
    (λ late. since_1970 seconds dt.time.subsec_nanosecond late ∙ ap (λ (n : ℤ). in_range (moment_from n)) (sym is))

-- the moment, or that there is none in range
pub in_range-ok_or : (moment : Option ℕ) → in_range moment ≡ ok_or moment OutOfRange
in_range-ok_or None = refl
in_range-ok_or (Some moment) = refl

-- the instant of a text, from its parts
pub instant_of-parts : (dt : DateTime) (offset : Offset) (d : Date) (clock nanos : ℕ) (zone : Bool × ℕ) → dt.date ≡ d → pos 0 ≤ℤ d.year → time_seconds dt.time ≡ clock → dt.time.subsec_nanosecond ≡ nanos → zone.1 ≤ 86340 → offset.seconds ≡ signed zone.0 zone.1
    → instant (utc_seconds (days_to (civil_date d).year d.month d.day * 86400 + clock) zone) nanos ≡ instant_of (dt, offset)
instant_of-parts dt offset d clock nanos zone date late time fraction small is =
    rw (← date, ← time, ← fraction) (ap (λ (s : ℕ). instant s dt.time.subsec_nanosecond) (utc_seconds-shown dt offset zone (rw date late) small is))
