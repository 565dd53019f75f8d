-- The JSON bodies of reminders and timers (Actors API reference of Dapr, version 1.0). Members not named here are
-- ignored.
use Rattle.std.specs.Prelude.{ℕ, ◌*◌, ◌==◌, nat_le, if◌then◌else◌, List, [], codes, length, Option, Some, None, Result, Ok, Err}
use Rattle.std.specs.Str.{is_utf8}
use Rattle.json_text.specs.Values.{JsonValue, is_null, is_object, text_in, member_at, has_other_number}
use Rattle.json_text.specs.Texts.{text_of}
use Rattle.json_text.specs.Reading.{reading}
use Rattle.schedule_text.specs.Reading.{◌>>=◌}
use Rattle.schedule_text.specs.Schedules.{read_schedule}
use Rattle.schedule_text.specs.declared.advance.Schedule.{Schedule}
use Rattle.schedule_text.specs.declared.error.ScheduleError.{ScheduleError}
use Rattle.reminder_rows.specs.declared.reminder.Reminder.{Reminder}
use Rattle.timer_book.specs.declared.timer.Timer.{Timer}
use Rattle.api_bodies.specs.declared.record.Texts.{Texts}
use Rattle.api_bodies.specs.declared.error.BodyError.{BodyError}
use Rattle.api_bodies.specs.declared.error.BodyError.TheVariants.{Malformed, OtherNumber, BadSchedule}

abbrev pub formed : {A : Type 0} → Option A → Result A BodyError
formed None = Err Malformed
formed (Some x) = Ok x

-- the value that a body has: JSON in UTF-8
abbrev pub value_in : List ℕ → Option JsonValue
value_in body = if is_utf8 body then reading body else None

unfoldable pub body_reading : List ℕ → Result JsonValue BodyError
body_reading body = formed (value_in body)

-- no body counts as `{}`
abbrev pub or_braces : List ℕ → List ℕ
or_braces body = if length body == 0 then codes "{}" else body

-- a text of at most 256 bytes
abbrev pub short : Option (List ℕ) → Result (List ℕ) BodyError
short None = Err Malformed
short (Some text) = if nat_le (length text) 256 then Ok text else Err Malformed

-- an optional text; one that is absent or null is empty
abbrev pub optional_text : Option JsonValue → Result (List ℕ) BodyError
optional_text None = Ok []
optional_text (Some v) = if is_null v then Ok [] else short (text_in v)

-- the texts of a reminder's or timer's schedule
pub record ScheduleTexts : Type 0 where
  pub due : List ℕ
  pub period : List ℕ
  pub ttl : List ℕ

abbrev pub texts_view : Texts → ScheduleTexts
texts_view t = record { due = t.due.now; period = t.period.now; ttl = t.ttl.now }

abbrev pub texts_in : JsonValue → Result ScheduleTexts BodyError
texts_in v =
    optional_text (member_at (codes "dueTime") v) >>= λ due.
    optional_text (member_at (codes "period") v) >>= λ period.
    optional_text (member_at (codes "ttl") v) >>= λ ttl.
    Ok (record { due = due; period = period; ttl = ttl })

abbrev pub texts_reading : JsonValue → Result ScheduleTexts BodyError
texts_reading v = if is_object v then texts_in v else Err Malformed

-- A value is kept as its compact text. A number in it, however deep, has to be an integer of 64 bits, with or without
-- sign.
abbrev pub kept_text : JsonValue → Result (List ℕ) BodyError
kept_text v = if has_other_number v then Err OtherNumber else Ok (text_of v)

-- null is a value, too
abbrev pub kept_value : Option JsonValue → Result (Option (List ℕ)) BodyError
kept_value None = Ok None
kept_value (Some v) = kept_text v >>= λ text. Ok (Some text)

-- the schedule of the texts at `now`, in milliseconds
abbrev pub scheduled : Result Schedule ScheduleError → Result Schedule BodyError
scheduled (Ok schedule) = Ok schedule
scheduled (Err fault) = Err (BadSchedule fault)

abbrev pub schedule_reading : ScheduleTexts → ℕ → Result Schedule BodyError
schedule_reading texts now = scheduled (read_schedule texts.due texts.period texts.ttl (now * 1000000))

-- a reminder keeps its texts as they were given
abbrev pub reminder_with : ScheduleTexts → Option (List ℕ) → Schedule → Reminder
reminder_with texts payload schedule = record { schedule = schedule; due = texts.due; period = texts.period; ttl = texts.ttl; payload = payload }

abbrev pub timer_with : ScheduleTexts → List ℕ → Option (List ℕ) → Schedule → Timer
timer_with texts callback payload schedule = record { schedule = schedule; callback = callback; payload = payload; due = texts.due; period = texts.period }

-- the reminder of a value: form, number, schedule
abbrev pub reminder_in : JsonValue → ℕ → Result Reminder BodyError
reminder_in v now =
    texts_reading v >>= λ texts.
    kept_value (member_at (codes "data") v) >>= λ payload.
    schedule_reading texts now >>= λ schedule.
    Ok (reminder_with texts payload schedule)

-- the timer of a value: form, number, schedule
abbrev pub timer_in : JsonValue → ℕ → Result Timer BodyError
timer_in v now =
    texts_reading v >>= λ texts.
    optional_text (member_at (codes "callback") v) >>= λ callback.
    kept_value (member_at (codes "data") v) >>= λ payload.
    schedule_reading texts now >>= λ schedule.
    Ok (timer_with texts callback payload schedule)

abbrev pub reminder_reading : List ℕ → ℕ → Result Reminder BodyError
reminder_reading body now = body_reading (or_braces body) >>= λ v. reminder_in v now

abbrev pub timer_reading : List ℕ → ℕ → Result Timer BodyError
timer_reading body now = body_reading (or_braces body) >>= λ v. timer_in v now
