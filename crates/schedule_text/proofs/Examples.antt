-- Worked examples of the definitions.
use Rattle.std.proofs.Common.{◌≡◌, Some, None, refl}
use Rattle.std.specs.Prelude.{codes, Ok, Err, ◌∷◌, []}
use Rattle.schedule_text.specs.declared.error.ScheduleError.TheVariants.{BadMoment, BadDuration, Negative, ZeroRepeats}
use Rattle.schedule_text.specs.declared.advance.Schedule.{Schedule}
use Rattle.schedule_text.specs.declared.advance.Next.TheVariants as next
use Rattle.schedule_text.specs.Calendar.{date_of, date_after, days_to, months_on}
use Rattle.schedule_text.specs.Firing.{add_period, sum_of, first_after, next_firing, firings_from, firing_list}
use Rattle.schedule_text.specs.GoDurations.{go_nanos, term_at, terms_from}
use Rattle.schedule_text.specs.IsoDurations.{iso_duration, iso_period, amounts_at, time_at}
use Rattle.schedule_text.specs.Moments.{read_moment, instant_at, date_at, year_at, minutes_at, clock_at, offset_at, moment_text}

go_of_three_seconds : go_nanos (codes "0h0m3s0ms") ≡ Ok 3000000000
unfolding go_nanos term_at terms_from
go_of_three_seconds = refl

negative_zero_is_zero : go_nanos (codes "-0.9ns") ≡ Ok 0
unfolding go_nanos term_at terms_from
negative_zero_is_zero = refl

below_zero_is_negative : go_nanos (codes "-3s") ≡ Err Negative
unfolding go_nanos term_at terms_from
below_zero_is_negative = refl

tenth_digit_is_bad : go_nanos (codes "1.0000000001s") ≡ Err (BadDuration 11)
unfolding go_nanos term_at terms_from
tenth_digit_is_bad = refl

five_repetitions : iso_period (codes "R5/PT1M30S") ≡ Ok (record { months = 0; nanos = 90000000000 }, Some 5)
unfolding iso_period iso_duration amounts_at time_at
five_repetitions = refl

zero_repetitions_before_a_bad_duration : iso_period (codes "R00/x") ≡ Err ZeroRepeats
unfolding iso_period iso_duration amounts_at time_at
zero_repetitions_before_a_bad_duration = refl

months_before_years : iso_duration (codes "P1M1Y") ≡ Err (BadDuration 4)
unfolding iso_duration amounts_at time_at
months_before_years = refl

no_29_february : read_moment (codes "2023-02-29T00:00:00Z") ≡ Err (BadMoment 8)
unfolding read_moment instant_at date_at year_at minutes_at clock_at offset_at days_to
no_29_february = refl

before_1970_but_for_its_offset : read_moment (codes "1969-12-31t23:30:00.5-01:00") ≡ Ok 1800500000000
unfolding read_moment instant_at date_at year_at minutes_at clock_at offset_at days_to
before_1970_but_for_its_offset = refl

printed_with_nine_digits : moment_text 1675123200000000012 ≡ codes "2023-01-31T00:00:00.000000012Z"
unfolding moment_text date_of
printed_with_nine_digits = refl

-- each month, without an end
monthly : Schedule
monthly = record { first = None; period = Some (record { months = 1; nanos = 0 }); left = None; «end» = None }

day_cut_to_the_months_last : next_firing monthly 1675123200000000000 1675123200000000000 ≡ next.At 1677542400000000000 None
unfolding monthly add_period sum_of first_after months_on date_of date_after days_to
day_cut_to_the_months_last = refl

day_stays_cut : next_firing monthly 1677542400000000000 1677542400000000000 ≡ next.At 1679961600000000000 None
unfolding monthly add_period sum_of first_after months_on date_of date_after days_to
day_stays_cut = refl

-- 31 January 2023, 28 February, 28 March
day_cut_in_a_list : firing_list 3 (record monthly { first = Some 1675123200000000000 }) ≡ 1675123200000000000 ∷ 1677542400000000000 ∷ 1679961600000000000 ∷ []
unfolding monthly firings_from add_period sum_of first_after months_on date_of date_after days_to
day_cut_in_a_list = refl

no_first_no_list : firing_list 3 monthly ≡ []
unfolding monthly firings_from
no_first_no_list = refl

-- every 90 seconds, three times, as R3/PT1M30S says
three_times : Schedule
three_times = record { first = Some 0; period = Some (record { months = 0; nanos = 90000000000 }); left = Some 3; «end» = None }

list_ends_with_the_repetitions : firing_list 10 three_times ≡ 0 ∷ 90000000000 ∷ 180000000000 ∷ []
unfolding three_times firings_from add_period sum_of first_after
list_ends_with_the_repetitions = refl

list_is_cut : firing_list 2 three_times ≡ 0 ∷ 90000000000 ∷ []
unfolding three_times firings_from add_period sum_of first_after
list_is_cut = refl

end_is_no_moment : firing_list 10 (record three_times { «end» = Some 90000000000 }) ≡ 0 ∷ []
unfolding three_times firings_from add_period sum_of first_after
end_is_no_moment = refl

-- 90 seconds before the first moment of 9999, and a second before it
list_ends_at_the_last_moment : firing_list 10 (record three_times { first = Some 253370764710000000000 }) ≡ 253370764710000000000 ∷ []
unfolding three_times firings_from add_period sum_of first_after
list_ends_at_the_last_moment = refl

list_reaches_the_last_second : firing_list 10 (record three_times { first = Some 253370764709000000000 }) ≡ 253370764709000000000 ∷ 253370764799000000000 ∷ []
unfolding three_times firings_from add_period sum_of first_after
list_reaches_the_last_second = refl
