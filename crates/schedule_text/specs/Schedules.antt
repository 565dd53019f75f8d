-- What the three texts of a schedule say, after the reminders and timers of Dapr's Actors API; what they mean
-- together is own.
use Rattle.std.specs.Prelude.{ℕ, ◌&&◌, ◌||◌, ◌==◌, nat_lt, if◌then◌else◌, List, length, slice_index, Option, None, Some, Result, Ok, Err}
use Rattle.schedule_text.specs.declared.error.ScheduleError.{ScheduleError}
use Rattle.schedule_text.specs.declared.error.ScheduleError.TheVariants.{OutOfRange}
use Rattle.schedule_text.specs.declared.advance.Period.{Period}
use Rattle.schedule_text.specs.declared.advance.Schedule.{Schedule}
use Rattle.schedule_text.specs.Firing.{add_period, is_zero}
use Rattle.schedule_text.specs.Reading.{◌>>=◌}
use Rattle.schedule_text.specs.GoDurations.{go_nanos}
use Rattle.schedule_text.specs.IsoDurations.{begins_with, iso_duration, iso_period}
use Rattle.schedule_text.specs.Moments.{read_moment}

abbrev pub present : Option ℕ → Result (Option ℕ) ScheduleError
present None = Err OutOfRange
present (Some moment) = Ok (Some moment)

-- the moment one duration after now
abbrev pub moment_from_now : ℕ → Period → Result (Option ℕ) ScheduleError
moment_from_now now period = present (add_period now period)

-- A moment, or a duration from now on; an empty text is absent. A `P` begins an ISO duration, a `-` as the fifth
-- byte means a moment, and everything else is a duration as Go writes it.
abbrev pub moment_or_duration : List ℕ → ℕ → Result (Option ℕ) ScheduleError
moment_or_duration text now =
    if length text == 0 then Ok None else (
    if begins_with 80 text then (iso_duration text >>= λ period. moment_from_now now period) else (
    if nat_lt 4 (length text) && (slice_index text 4 == 45) then (read_moment text >>= λ moment. Ok (Some moment)) else
    (go_nanos text >>= λ nanos. moment_from_now now (record { months = 0; nanos = nanos }))))

-- a period of zero length is absent, and so is its count
abbrev pub one_or_absent : Period × Option ℕ → Option Period × Option ℕ
one_or_absent read = if is_zero read.0 then (None, None) else (Some read.0, read.1)

-- A period and how many firings it allows. A period of ISO 8601 begins with an `R` or a `P`.
abbrev pub period_reading : List ℕ → Result (Option Period × Option ℕ) ScheduleError
period_reading text =
    if length text == 0 then Ok (None, None) else (
    if begins_with 82 text || begins_with 80 text then (iso_period text >>= λ read. Ok (one_or_absent read)) else
    (go_nanos text >>= λ nanos. Ok (one_or_absent (record { months = 0; nanos = nanos }, None))))

-- the first moment, if it is before the end
abbrev pub first_before : ℕ → Option ℕ → Option ℕ
first_before first None = Some first
first_before first (Some end) = if nat_lt first end then Some first else None

abbrev pub due_or_now : ℕ → Option ℕ → ℕ
due_or_now now None = now
due_or_now now (Some due) = due

-- the schedule of the three texts, or the first fault in their order
unfoldable pub read_schedule : List ℕ → List ℕ → List ℕ → ℕ → Result Schedule ScheduleError
read_schedule due period ttl now =
    moment_or_duration due now >>= λ first.
    period_reading period >>= λ read.
    moment_or_duration ttl now >>= λ until.
    Ok (record { first = first_before (due_or_now now first) until; period = read.0; left = read.1; «end» = until })
