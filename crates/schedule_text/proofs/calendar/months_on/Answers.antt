use Rattle.std.proofs.Common.{◌≡◌, ◌/◌, inl, inr, pos, sym, arith, refl, ◌∙◌, to_z, w64, add-zero}
use Rattle.std.proofs.lemmas.Bool.{cases_lt}
use Rattle.std.proofs.lemmas.Result.{IfOk-at_ok}
use Rattle.jiff_core.specs.DateTime.{civil_nanos}
use Rattle.jiff_core.proofs.SignedLemmas.{signed_arith, signed_casts}
use Rattle.schedule_text.specs.Calendar.{months_on, date_after, date_of, day_nanos}
use Rattle.schedule_text.proofs.Jumps.{moment_of-none}
use Rattle.schedule_text.proofs.MonthSums.{months_on-many, months_on-end, datetime_add-months, can_add-months, ok_of-some, ok_of-none}
use Rattle.schedule_text.proofs.calendar.months_on.Goals as goal

pub returns-then-months-gt-MOST_MONTHS : goal.returns-then-months-gt-MOST_MONTHS
returns-then-months-gt-MOST_MONTHS c =
    let low = c.timestamp_of.ensures.range in
    sym (moment_of-none _ (months_on-many c.args.moment c.args.months low c.if-months-gt-MOST_MONTHS.true))

pub returns-in_err-later : goal.returns-in_err-later
returns-in_err-later c =
    let low = c.timestamp_of.ensures.range in
    let shows : civil_nanos c.to_datetime-shown.result ≡ pos c.args.moment = omega (arith, signed_arith, c.to_datetime-shown.ensures, c.timestamp_of.ensures.nanos) in
    let months : to_z w64 c.args.months ≡ pos c.args.months = omega (arith, signed_casts) in
    let only = rw months at c.months.ensures in
    elim (cases_lt (date_after (date_of (c.args.moment / day_nanos)) c.args.months).year 9999) [
      | inl early ↦ absurd (ok_of-none c.checked_add.result (c.checked_add.ensures.succeeds.1 (can_add-months c.args.moment c.args.months low c.to_datetime-shown.result shows c.months.result only early)) (sym c.ok.ensures.value ∙ c.in_err-later.was))
      | inr late ↦ c.from_residual.ensures ∙ sym (moment_of-none _ (months_on-end c.args.moment c.args.months low late))
    ]

pub returns : goal.returns
returns c =
    let low = c.timestamp_of.ensures.range in
    let shows : civil_nanos c.to_datetime-shown.result ≡ pos c.args.moment = omega (arith, signed_arith, c.to_datetime-shown.ensures, c.timestamp_of.ensures.nanos) in
    let months : to_z w64 c.args.months ≡ pos c.args.months = omega (arith, signed_casts) in
    let only = rw months at c.months.ensures in
    let is = ok_of-some c.checked_add.result c.in_ok-later.later (sym c.ok.ensures.value ∙ c.in_ok-later.was) in
    let later = IfOk-at_ok _ is c.checked_add.ensures.value in
    let sum : civil_nanos c.in_ok-later.later ≡ pos (months_on c.args.moment c.args.months) = later ∙ datetime_add-months c.args.moment c.args.months low c.to_datetime-shown.result shows c.months.result only in
    c.moment_shown.ensures ∙ rw (sum, add-zero) refl
