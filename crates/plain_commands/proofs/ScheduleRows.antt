-- Worked examples of the command `schedule`.
use Rattle.std.proofs.Common.{◌≡◌, List, ℕ, [], codes, refl}
use Rattle.std.specs.Fmt.{digits}
use Rattle.schedule_text.specs.Calendar.{date_of, date_after, days_to}
use Rattle.schedule_text.specs.Firing.{firings_from, add_period, sum_of, first_after}
use Rattle.schedule_text.specs.GoDurations.{go_nanos, term_at, terms_from}
use Rattle.schedule_text.specs.IsoDurations.{iso_duration, iso_period, amounts_at, time_at}
use Rattle.schedule_text.specs.Moments.{read_moment, instant_at, date_at, year_at, minutes_at, clock_at, offset_at, moment_text}
use Rattle.schedule_text.specs.Schedules.{read_schedule}
use Rattle.command_words.specs.Reading.{Asking}
use Rattle.plain_commands.specs.Schedule.{ScheduleRun, schedule_of}

abbrev asks : List ℕ → List ℕ → List ℕ → ℕ → Asking
asks now due period count = record { now = now; due = due; period = period; ttl = []; count = count }

abbrev refused : List ℕ → ScheduleRun
refused line = record { status = 3; text = line }

empty_now_is_a_bad_moment : schedule_of (asks [] (codes "-3s") [] 10) ≡ refused (codes "refused bad-moment 0\n")
unfolding read_moment instant_at date_at year_at minutes_at clock_at offset_at digits
empty_now_is_a_bad_moment = refl

due_before_now_is_negative : schedule_of (asks (codes "2023-01-01T00:00:00Z") (codes "-3s") (codes "R0/PT1S") 10) ≡ refused (codes "refused negative\n")
unfolding read_moment instant_at date_at year_at minutes_at clock_at offset_at days_to read_schedule go_nanos term_at terms_from
due_before_now_is_negative = refl

no_repetition_is_refused : schedule_of (asks (codes "2023-01-01T00:00:00Z") [] (codes "R0/PT1S") 10) ≡ refused (codes "refused zero-repeats\n")
unfolding read_moment instant_at date_at year_at minutes_at clock_at offset_at days_to read_schedule iso_duration iso_period amounts_at time_at
no_repetition_is_refused = refl

two_moments : schedule_of (asks (codes "1970-01-01T00:00:00Z") [] (codes "90s") 2) ≡ record { status = 0; text = codes "1970-01-01T00:00:00Z\n1970-01-01T00:01:30Z\n" }
unfolding read_moment instant_at date_at year_at minutes_at clock_at offset_at days_to read_schedule go_nanos term_at terms_from firings_from add_period sum_of first_after moment_text date_of date_after
two_moments = refl
