-- Durations of ISO 8601 in whole numbers, and their repetitions. A week has 7 days and a day 24 hours here.
use Rattle.std.specs.Prelude.{ℕ, ◌+◌, ◌*◌, Bool, false, ◌&&◌, ◌||◌, ◌==◌, nat_lt, if◌then◌else◌, List, [], ◌∷◌, length, Option, None, Some, Result, Ok, Err}
use Rattle.schedule_text.specs.declared.error.ScheduleError.{ScheduleError}
use Rattle.schedule_text.specs.declared.error.ScheduleError.TheVariants.{ZeroRepeats, OutOfRange}
use Rattle.schedule_text.specs.declared.advance.Period.{Period}
use Rattle.schedule_text.specs.Numbers.{kept, begins_with_digit, number_from, behind_digits}
use Rattle.schedule_text.specs.Reading.{◌>>=◌}
use Rattle.schedule_text.specs.GoDurations.{most_nanos, placed, behind_first}

-- whether a text begins with that byte
abbrev pub begins_with : ℕ → List ℕ → Bool
begins_with byte [] = false
begins_with byte (b ∷ bs) = b == byte

-- whether the text begins with a number and that letter
abbrev pub has_field : ℕ → List ℕ → Bool
has_field letter text = begins_with_digit text && begins_with letter (behind_digits text)

-- the number before that letter; 0 if the text doesn't begin with them
abbrev pub field_number : Bool → ℕ → List ℕ → ℕ
field_number cut letter text = if has_field letter text then number_from cut 0 text else 0

-- what is behind that letter; the whole text if it doesn't begin with them
abbrev pub behind_field : ℕ → List ℕ → List ℕ
behind_field letter text = if has_field letter text then behind_first (behind_digits text) else text

-- How many bytes are left at the fault: behind the last letter the next byte is refused; else the byte behind the
-- digits is, since no letter fits.
abbrev pub left_at : Bool → List ℕ → ℕ
left_at last text = if last then length text else length (behind_digits text)

-- hours, minutes and seconds up to the text's end, at least one of them, in nanoseconds
unfoldable pub time_at : Bool → List ℕ → Result ℕ ℕ
time_at cut text =
    let behind_h = behind_field 72 text in
    let behind_m = behind_field 77 behind_h in
    let behind_s = behind_field 83 behind_m in
    if (length behind_s == 0) && (has_field 72 text || has_field 77 behind_h || has_field 83 behind_m)
    then Ok (kept cut (kept cut (kept cut (field_number cut 72 text * 3600000000000) + kept cut (field_number cut 77 behind_h * 60000000000)) + kept cut (field_number cut 83 behind_m * 1000000000)))
    else Err (left_at (has_field 83 behind_m) behind_s)

-- years, months, weeks and days, and then `T` and a time, up to the text's end: months and nanoseconds
unfoldable pub amounts_at : Bool → List ℕ → Result (ℕ × ℕ) ℕ
amounts_at cut text =
    let behind_y = behind_field 89 text in
    let behind_m = behind_field 77 behind_y in
    let behind_w = behind_field 87 behind_m in
    let behind_d = behind_field 68 behind_w in
    let months = kept cut (kept cut (field_number cut 89 text * 12) + field_number cut 77 behind_y) in
    let days = kept cut (kept cut (field_number cut 87 behind_m * 604800000000000) + kept cut (field_number cut 68 behind_w * 86400000000000)) in
    if begins_with 84 behind_d then (time_at cut (behind_first behind_d) >>= λ time. Ok (months, kept cut (days + time))) else (
    if (length behind_d == 0) && (has_field 89 text || has_field 77 behind_y || has_field 87 behind_m || has_field 68 behind_w)
    then Ok (months, days)
    else Err (left_at (has_field 68 behind_w) behind_d))

-- a `P` and then the amounts
abbrev pub duration_at : Bool → List ℕ → Result (ℕ × ℕ) ℕ
duration_at cut text = if begins_with 80 text then amounts_at cut (behind_first text) else Err (length text)

-- 9,999 years
abbrev pub most_months : ℕ
most_months = 119988

-- the amounts, if they are in range
abbrev pub ranged : ℕ × ℕ → Result Period ScheduleError
ranged amounts =
    if nat_lt most_months amounts.0 || nat_lt most_nanos amounts.1 then Err OutOfRange else
    Ok (record { months = amounts.0; nanos = amounts.1 })

-- the duration that the whole text is
unfoldable pub iso_duration : List ℕ → Result Period ScheduleError
iso_duration text = placed text (duration_at false text) >>= λ amounts. ranged amounts

-- the number of some digits, which a `/` follows
abbrev pub count_at : Bool → List ℕ → Result (ℕ × List ℕ) ℕ
count_at cut text =
    if begins_with_digit text && begins_with 47 (behind_digits text)
    then Ok (number_from cut 0 text, behind_first (behind_digits text))
    else Err (length (behind_digits text))

-- a count up to 2^32 - 1 and a duration in range
abbrev pub counted : ℕ → ℕ × ℕ → Result (Period × Option ℕ) ScheduleError
counted count amounts = if nat_lt 4294967295 count then Err OutOfRange else (ranged amounts >>= λ period. Ok (period, Some count))

-- a count of 0 is refused before the duration is read
abbrev pub repeated : List ℕ → ℕ × List ℕ → Result (Period × Option ℕ) ScheduleError
repeated text count =
    if count.0 == 0 then Err ZeroRepeats else
    (placed text (duration_at false count.1) >>= λ amounts. counted count.0 amounts)

-- a duration, and how often it is repeated if the text begins with an `R`
unfoldable pub iso_period : List ℕ → Result (Period × Option ℕ) ScheduleError
iso_period text =
    if begins_with 82 text
    then (placed text (count_at false (behind_first text)) >>= λ count. repeated text count)
    else (iso_duration text >>= λ period. Ok (period, None))
