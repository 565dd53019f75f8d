-- Moments as RFC 3339 writes them (section 5.6), with at most nine digits of a second's fraction and without
-- leap seconds. Offsets from UTC go to 23:59.
use Rattle.std.specs.Prelude.{ℕ, suc, ◌+◌, ◌-◌, ◌*◌, ◌/◌, ◌%◌, Bool, true, false, ◌&&◌, ◌||◌, ◌==◌, nat_lt, nat_le, if◌then◌else◌, pos, ◌+ℤ◌, ◌-ℤ◌, unsigned_abs, List, [], ◌∷◌, ◌++◌, length, Option, None, Some, Result, Ok, Err}
use Rattle.jiff_core.specs.declared.civil.datetime.DateTime.{DateTime}
use Rattle.jiff_core.specs.declared.offset.Offset.{Offset}
use Rattle.jiff_core.specs.Calendar.{days_in_month}
use Rattle.jiff_core.specs.DateTime.{civil_seconds}
use Rattle.schedule_text.specs.declared.error.ScheduleError.{ScheduleError}
use Rattle.schedule_text.specs.declared.error.ScheduleError.TheVariants.{BadMoment, OutOfRange}
use Rattle.schedule_text.specs.Range.{moment_of}
use Rattle.schedule_text.specs.Calendar.{CivilDate, days_to_1970, day_nanos, days_to, date_of}
use Rattle.schedule_text.specs.Numbers.{is_digit, begins_with_digit, billionths_from, behind_billionths, first_weight, billionth}
use Rattle.schedule_text.specs.Reading.{◌>>=◌}
use Rattle.schedule_text.specs.GoDurations.{behind_first}
use Rattle.schedule_text.specs.IsoDurations.{begins_with}

-- A number out of its range is refused at its first byte, which is two bytes before `rest`.
abbrev pub bounded : ℕ → ℕ → ℕ → List ℕ → Result (ℕ × List ℕ) ℕ
bounded low high n rest = if nat_le low n && nat_le n high then Ok (n, rest) else Err (suc (suc (length rest)))

-- the second digit of a number from `low` to `high`
abbrev pub ones_at : ℕ → ℕ → ℕ → List ℕ → Result (ℕ × List ℕ) ℕ
ones_at low high tens [] = Err 0
ones_at low high tens (b ∷ bs) = if is_digit b then bounded low high ((tens - 48) * 10 + (b - 48)) bs else Err (length (b ∷ bs))

-- A number of two digits from `low` to `high`. A first byte that no such number has is refused by itself.
abbrev pub two_at : ℕ → ℕ → List ℕ → Result (ℕ × List ℕ) ℕ
two_at low high [] = Err 0
two_at low high (b ∷ bs) = if is_digit b && nat_le (b - 48) (high / 10) then ones_at low high b bs else Err (length (b ∷ bs))

-- one of two bytes
abbrev pub either_at : ℕ → ℕ → List ℕ → Result (List ℕ) ℕ
either_at byte other text = if begins_with byte text || begins_with other text then Ok (behind_first text) else Err (length text)

-- a year of four digits
unfoldable pub year_at : List ℕ → Result (ℕ × List ℕ) ℕ
year_at text =
    two_at 0 99 text >>= λ century.
    two_at 0 99 century.1 >>= λ year.
    Ok (century.0 * 100 + year.0, year.1)

-- a date that the calendar has, as `YYYY-MM-DD`
unfoldable pub date_at : List ℕ → Result (CivilDate × List ℕ) ℕ
date_at text =
    year_at text >>= λ year.
    either_at 45 45 year.1 >>= λ rest.
    two_at 1 12 rest >>= λ month.
    either_at 45 45 month.1 >>= λ rest.
    two_at 1 (days_in_month (pos year.0) month.0) rest >>= λ day.
    Ok (record { year = year.0; month = month.0; day = day.0 }, day.1)

-- hours and minutes as seconds, as `hh:mm`
unfoldable pub minutes_at : List ℕ → Result (ℕ × List ℕ) ℕ
minutes_at text =
    two_at 0 23 text >>= λ hour.
    either_at 58 58 hour.1 >>= λ rest.
    two_at 0 59 rest >>= λ minute.
    Ok (hour.0 * 3600 + minute.0 * 60, minute.1)

-- a time of the day in seconds, as `hh:mm:ss`
unfoldable pub clock_at : List ℕ → Result (ℕ × List ℕ) ℕ
clock_at text =
    minutes_at text >>= λ minutes.
    either_at 58 58 minutes.1 >>= λ rest.
    two_at 0 59 rest >>= λ second.
    Ok (minutes.0 + second.0, second.1)

-- the fraction of a second in nanoseconds: a point and its digits, or nothing
abbrev pub subsecond_at : List ℕ → Result (ℕ × List ℕ) ℕ
subsecond_at text =
    if begins_with 46 text
    then (if begins_with_digit (behind_first text)
    then Ok (billionths_from first_weight 0 (behind_first text), behind_billionths first_weight (behind_first text))
    else Err (length (behind_first text)))
    else Ok (0, text)

-- the text must end here
abbrev pub ending : {A : Type 0} → A → List ℕ → Result A ℕ
ending x text = if length text == 0 then Ok x else Err (length text)

-- an offset up to the text's end, and whether it is behind UTC
unfoldable pub offset_at : Bool → List ℕ → Result (Bool × ℕ) ℕ
offset_at behind text = minutes_at text >>= λ minutes. ending (behind, minutes.0) minutes.1

-- `Z`, or a sign and an offset
abbrev pub zone_at : List ℕ → Result (Bool × ℕ) ℕ
zone_at text =
    if begins_with 90 text || begins_with 122 text then ending (false, 0) (behind_first text) else (
    if begins_with 43 text then offset_at false (behind_first text) else (
    if begins_with 45 text then offset_at true (behind_first text) else
    Err (length text)))

-- the seconds in UTC from the first day of the year -10000 on, from those that a clock at this offset shows
abbrev pub utc_seconds : ℕ → Bool × ℕ → ℕ
utc_seconds local zone = if zone.0 then local + zone.1 else local - zone.1

-- those seconds and the nanoseconds of a moment's text
unfoldable pub instant_at : List ℕ → Result (ℕ × ℕ) ℕ
instant_at text =
    date_at text >>= λ date.
    either_at 84 116 date.1 >>= λ rest.
    clock_at rest >>= λ clock.
    subsecond_at clock.1 >>= λ subsecond.
    zone_at subsecond.1 >>= λ zone.
    Ok (utc_seconds (days_to date.0.year date.0.month date.0.day * 86400 + clock.0) zone, subsecond.0)

abbrev pub in_range : Option ℕ → Result ℕ ScheduleError
in_range None = Err OutOfRange
in_range (Some moment) = Ok moment

-- the moment of that instant, if it is one
abbrev pub moment_at : ℕ × ℕ → Result ℕ ScheduleError
moment_at instant =
    if nat_lt instant.0 (days_to_1970 * 86400) then Err OutOfRange else
    in_range (moment_of ((instant.0 - days_to_1970 * 86400) * billionth + instant.1))

-- the moment of an instant; or the fault with its place in the text, from the number of bytes left
abbrev pub read_from : List ℕ → Result (ℕ × ℕ) ℕ → Result ℕ ScheduleError
read_from text (Ok instant) = moment_at instant
read_from text (Err left) = Err (BadMoment (length text - left))

-- the seconds in UTC and the nanoseconds at which a clock with this offset shows this date and time
abbrev pub instant_of : DateTime × Offset → ℕ × ℕ
instant_of shown = (unsigned_abs (civil_seconds shown.0 -ℤ shown.1.seconds +ℤ pos (days_to_1970 * 86400)), shown.0.time.subsec_nanosecond)

-- the moment that a text stands for
unfoldable pub read_moment : List ℕ → Result ℕ ScheduleError
read_moment text = read_from text (instant_at text)

-- two digits
abbrev pub two_digits : ℕ → List ℕ
two_digits n = (48 + n / 10) ∷ (48 + n % 10) ∷ []

-- nine digits
abbrev pub nine_digits : ℕ → List ℕ
nine_digits n = (48 + n / 100000000) ∷ two_digits (n / 1000000 % 100) ++ two_digits (n / 10000 % 100) ++ two_digits (n / 100 % 100) ++ two_digits (n % 100)

-- `YYYY-MM-DD`
abbrev pub date_text : CivilDate → List ℕ
date_text date = two_digits (date.year / 100) ++ two_digits (date.year % 100) ++ 45 ∷ two_digits date.month ++ 45 ∷ two_digits date.day

-- `hh:mm:ss` of the seconds of a day
abbrev pub clock_text : ℕ → List ℕ
clock_text seconds = two_digits (seconds / 3600) ++ 58 ∷ two_digits (seconds / 60 % 60) ++ 58 ∷ two_digits (seconds % 60)

-- a point and nine digits, if the nanoseconds aren't 0
abbrev pub subsecond_text : ℕ → List ℕ
subsecond_text nanos = if nanos == 0 then [] else 46 ∷ nine_digits nanos

-- a moment as `YYYY-MM-DDThh:mm:ssZ`, with nine digits of nanoseconds if they aren't 0
unfoldable pub moment_text : ℕ → List ℕ
moment_text moment =
    date_text (date_of (moment / day_nanos)) ++ 84 ∷ clock_text (moment % day_nanos / billionth) ++ subsecond_text (moment % billionth) ++ 90 ∷ []
