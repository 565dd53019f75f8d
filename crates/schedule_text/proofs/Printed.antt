-- What `jiff` prints for a date and time is the text of the moment.
use Rattle.std.proofs.Common.{◌≡◌, ℕ, ◌/◌, ◌%◌, ◌<◌, ◌==◌, if◌then◌else◌, Bool, true, false, Option, Some, List, [], ◌∷◌, ◌++◌, arith, refl, ap, ◌∙◌, pos}
use Rattle.jiff_core.specs.declared.civil.date.Date.{Date}
use Rattle.jiff_core.specs.declared.civil.datetime.DateTime.{DateTime}
use Rattle.jiff_core.specs.DateTime.{civil_nanos}
use Rattle.jiff_fmt.specs.declared.temporal.printer.DateTimePrinter.{DateTimePrinter}
use Rattle.jiff_fmt.specs.Printer.{options, datetime_text}
use Rattle.jiff_fmt.specs.Text.{places}
use Rattle.jiff_fmt.specs.Text as jiff
use Rattle.schedule_text.specs.Range.{end_of_time}
use Rattle.schedule_text.specs.Numbers.{billionth}
use Rattle.schedule_text.specs.Calendar.{day_nanos, date_of}
use Rattle.schedule_text.specs.Moments.{nine_digits, date_text, subsecond_text, moment_text}
use Rattle.schedule_text.proofs.CivilDates.{IsDayOf, epoch_day-date_of, civil_nanos-day}

-- nine places of billionths
places-nine : (n : ℕ) → n < billionth → places 9 1000000000 n ≡ nine_digits n
unfolding places
places-nine n low =
    let m1 : n % 100000000 % 10000000 ≡ n % 10000000 = omega arith in
    let m2 : n % 10000000 % 1000000 ≡ n % 1000000 = omega arith in
    let m3 : n % 1000000 % 100000 ≡ n % 100000 = omega arith in
    let m4 : n % 100000 % 10000 ≡ n % 10000 = omega arith in
    let m5 : n % 10000 % 1000 ≡ n % 1000 = omega arith in
    let m6 : n % 1000 % 100 ≡ n % 100 = omega arith in
    let d1 : n / 1000000 % 100 / 10 ≡ n % 100000000 / 10000000 = omega arith in
    let d2 : n / 1000000 % 100 % 10 ≡ n % 10000000 / 1000000 = omega arith in
    let d3 : n / 10000 % 100 / 10 ≡ n % 1000000 / 100000 = omega arith in
    let d4 : n / 10000 % 100 % 10 ≡ n % 100000 / 10000 = omega arith in
    let d5 : n / 100 % 100 / 10 ≡ n % 10000 / 1000 = omega arith in
    let d6 : n / 100 % 100 % 10 ≡ n % 1000 / 100 = omega arith in
    let last : n % 100 % 10 / 1 ≡ n % 100 % 10 = omega arith in
    rw (m1, m2, m3, m4, m5, m6, d1, d2, d3, d4, d5, d6, last) refl

date_text-day : (d : Date) (day : ℕ) → IsDayOf day d → jiff.date_text d ≡ date_text (date_of day)
date_text-day d day is = rw (is.year, is.month, is.day_is) refl

subsecond_text-fraction : (n : ℕ) (is_whole : Bool) → n < billionth → (n == 0) ≡ is_whole → jiff.fraction_part (Some (if is_whole then 0 else 9)) n ≡ subsecond_text n
subsecond_text-fraction n true low is = rw is refl
subsecond_text-fraction n false low is = rw is (ap (λ (t : List ℕ). 46 ∷ t) (places-nine n low))

-- the text of a date and time in UTC, with no fraction or nine digits of it
datetime_text-moment : (dt : DateTime) (moment : ℕ) (is_whole : Bool) → civil_nanos dt ≡ pos moment → moment < end_of_time → (moment % billionth == 0) ≡ is_whole
    → jiff.datetime_text false 84 (Some (if is_whole then 0 else 9)) dt ++ 90 ∷ [] ≡ moment_text moment
unfolding moment_text
datetime_text-moment dt moment is_whole shows low is =
    let parts = civil_nanos-day dt moment shows in
    let date = epoch_day-date_of dt.date (moment / day_nanos) (omega arith) parts.0 in
    let fraction : dt.time.subsec_nanosecond ≡ moment % billionth = omega (arith, parts.1) in
    let hour : dt.time.hour ≡ moment % day_nanos / billionth / 3600 = omega (arith, parts.1) in
    let minute : dt.time.minute ≡ moment % day_nanos / billionth / 60 % 60 = omega (arith, parts.1) in
    let second : dt.time.second ≡ moment % day_nanos / billionth % 60 = omega (arith, parts.1) in
    rw (date_text-day dt.date (moment / day_nanos) date, fraction, subsecond_text-fraction (moment % billionth) is_whole (omega arith) is, hour, minute, second) refl

-- what the printer of a moment writes
pub printed-moment : (printer : DateTimePrinter) (dt : DateTime) (moment : ℕ) (is_whole : Bool) → options printer ≡ (false, 84, Some (if is_whole then 0 else 9)) → civil_nanos dt ≡ pos moment → moment < end_of_time → (moment % billionth == 0) ≡ is_whole
    → datetime_text printer dt ++ jiff.zulu_text printer.lowercase ≡ moment_text moment
printed-moment printer dt moment is_whole set shows low is =
    let text : Bool × ℕ × Option ℕ → List ℕ = λ o. jiff.datetime_text o.0 o.1 o.2 dt ++ jiff.zulu_text o.0 in
    ap text set ∙ datetime_text-moment dt moment is_whole shows low is
