-- A text of a moment is read as its moment; and what is answered to any text.
use Rattle.std.proofs.Common.{◌≡◌, ℕ, ◌+◌, ◌-◌, ◌*◌, ◌≤◌, Bool, true, false, if◌then◌else◌, inl, inr, List, [], ◌∷◌, ◌++◌, length, length-append, arith, refl, sym, ap, ◌∙◌, subst, append_assoc, Option, Some, None, Result, Ok, Err}
use Rattle.std.specs.Prelude.{nat_lt}
use Rattle.schedule_text.specs.declared.error.ScheduleError.{ScheduleError}
use Rattle.schedule_text.specs.declared.error.ScheduleError.TheVariants.{BadMoment, BadDuration, Negative, ZeroRepeats, OutOfRange, OutOfMemory}
use Rattle.schedule_text.specs.Range.{moment_of}
use Rattle.schedule_text.specs.Calendar.{days_to_1970}
use Rattle.schedule_text.specs.Numbers.{begins_with_digit, billionths_from, behind_billionths, first_weight, billionth}
use Rattle.schedule_text.specs.IsoDurations.{begins_with}
use Rattle.schedule_text.specs.Moments.{minutes_at, clock_at, subsecond_at, offset_at, zone_at, instant_at, in_range, moment_at, read_moment, two_digits}
use Rattle.schedule_text.specs.Grammar.{FractionText, Whole, Fraction, ZoneText, Utc, SmallUtc, Ahead, Behind, MomentText, BeginsMoment, MomentFault, Missing, BadByte, BadField, AnswersMoment}
use Rattle.schedule_text.proofs.Outcomes.{Ending, Read, Lacks, Refuses, Excludes}
use Rattle.schedule_text.proofs.RoundTrips.{two_at-two, date_at-text}
use Rattle.schedule_text.proofs.MomentTexts.{moment_outcome}
use Rattle.schedule_text.proofs.Digits.{begins, digits_read}

-- ---- a text of a moment is read

clock_at-digits : (hour minute second : ℕ) (rest : List ℕ) → hour ≤ 23 → minute ≤ 59 → second ≤ 59 → clock_at (two_digits hour ++ 58 ∷ two_digits minute ++ 58 ∷ two_digits second ++ rest) ≡ Ok (hour * 3600 + minute * 60 + second, rest)
unfolding clock_at minutes_at
clock_at-digits hour minute second rest h m s =
    rw (two_at-two 0 23 hour (58 ∷ (two_digits minute ++ 58 ∷ two_digits second ++ rest)) (omega arith) h (omega arith), two_at-two 0 59 minute (58 ∷ (two_digits second ++ rest)) (omega arith) m (omega arith), two_at-two 0 59 second rest (omega arith) s (omega arith)) refl

offset_at-digits : (behind : Bool) (hour minute : ℕ) → hour ≤ 23 → minute ≤ 59 → offset_at behind (two_digits hour ++ 58 ∷ two_digits minute) ≡ Ok (behind, hour * 3600 + minute * 60)
unfolding offset_at minutes_at
offset_at-digits behind hour minute h m =
    rw (two_at-two 0 23 hour (58 ∷ two_digits minute) (omega arith) h (omega arith), two_at-two 0 59 minute [] (omega arith) m (omega arith)) refl

zone_at-text : (offset : Bool × ℕ) (zone : List ℕ) → ZoneText offset zone → zone_at zone ≡ Ok offset
zone_at-text offset zone (Utc is value) = rw (is, value) refl
zone_at-text offset zone (SmallUtc is value) = rw (is, value) refl
zone_at-text offset zone (Ahead hour minute h m is value) = rw (is, value) (offset_at-digits false hour minute h m)
zone_at-text offset zone (Behind hour minute h m is value) = rw (is, value) (offset_at-digits true hour minute h m)

no_digit : (offset : Bool × ℕ) (zone : List ℕ) → ZoneText offset zone → begins_with_digit zone ≡ false
no_digit offset zone (Utc is value) = rw is refl
no_digit offset zone (SmallUtc is value) = rw is refl
no_digit offset zone (Ahead hour minute h m is value) = rw is refl
no_digit offset zone (Behind hour minute h m is value) = rw is refl

no_point : (offset : Bool × ℕ) (zone : List ℕ) → ZoneText offset zone → begins_with 46 zone ≡ false
no_point offset zone (Utc is value) = rw is refl
no_point offset zone (SmallUtc is value) = rw is refl
no_point offset zone (Ahead hour minute h m is value) = rw is refl
no_point offset zone (Behind hour minute h m is value) = rw is refl

abbrev subsecond_of : ℕ → List ℕ → Result (ℕ × List ℕ) ℕ
subsecond_of nanos rest = Ok (nanos, rest)

subsecond_at-digits : (digits rest : List ℕ) → begins_with_digit (digits ++ rest) ≡ true → subsecond_at (46 ∷ (digits ++ rest)) ≡ subsecond_of (billionths_from first_weight 0 (digits ++ rest)) (behind_billionths first_weight (digits ++ rest))
subsecond_at-digits digits rest some = rw some refl

from_nothing : (n : ℕ) → 0 + n ≡ n
from_nothing n = omega arith

subsecond_at-text : (nanos : ℕ) (fraction : List ℕ) (offset : Bool × ℕ) (zone : List ℕ) → FractionText nanos fraction → ZoneText offset zone → subsecond_at (fraction ++ zone) ≡ Ok (nanos, zone)
subsecond_at-text nanos fraction offset zone (Whole is value) is_zone =
    let none = no_point offset zone is_zone in
    rw (is, value, none) refl
subsecond_at-text nanos fraction offset zone (Fraction digits are some few is value) is_zone =
    let read = digits_read 9 0 digits zone are few (no_digit offset zone is_zone) in
    rw is (subsecond_at-digits digits zone (begins digits zone are some) ∙ ap (λ (n : ℕ). subsecond_of n (behind_billionths first_weight (digits ++ zone))) (read.0 ∙ from_nothing _ ∙ sym value) ∙ ap (subsecond_of nanos) read.1)

pub instant_at-form : (instant : ℕ × ℕ) (text : List ℕ) → MomentText instant text → instant_at text ≡ Ok instant
unfolding instant_at
instant_at-form instant text m =
    let date = date_at-text m.date (m.joint ∷ (two_digits m.hour ++ 58 ∷ two_digits m.minute ++ 58 ∷ two_digits m.second ++ (m.fraction ++ m.zone))) m.is_date.year m.is_date.month m.is_date.day in
    let clock = clock_at-digits m.hour m.minute m.second (m.fraction ++ m.zone) m.is_hour m.is_minute m.is_second in
    let fraction = subsecond_at-text m.nanos m.fraction m.offset m.zone m.is_fraction m.is_zone in
    let zone = zone_at-text m.offset m.zone m.is_zone in
    elim m.is_joint [
      | inl large ↦ rw (m.text_is, m.instant_is, date, large, clock, fraction, zone) refl
      | inr small ↦ rw (m.text_is, m.instant_is, date, small, clock, fraction, zone) refl
    ]

pub read_moment-form : (instant : ℕ × ℕ) (text : List ℕ) → MomentText instant text → read_moment text ≡ moment_at instant
unfolding read_moment
read_moment-form instant text m = rw (instant_at-form instant text m) refl

-- ---- what is answered to any text

in_range-no_fault : (found : Option ℕ) (at : ℕ) → in_range found ≡ Err (BadMoment at) → ⊥
in_range-no_fault None at is = cc
in_range-no_fault (Some m) at is = cc

moment_at-by : (early : Bool) (found : Option ℕ) (at : ℕ) → (if early then Err OutOfRange else in_range found) ≡ Err (BadMoment at) → ⊥
moment_at-by true found at is = cc
moment_at-by false found at is = in_range-no_fault found at is

moment_at-no_fault : (instant : ℕ × ℕ) (at : ℕ) → moment_at instant ≡ Err (BadMoment at) → ⊥
moment_at-no_fault instant at is = moment_at-by (nat_lt instant.0 (days_to_1970 * 86400)) (moment_of ((instant.0 - days_to_1970 * 86400) * billionth + instant.1)) at is

answered : (text : List ℕ) (instant : ℕ × ℕ) (answer : Result ℕ ScheduleError) → MomentText instant text → answer ≡ moment_at instant → AnswersMoment text answer
answered text instant (Ok m) form is = (instant, form, is)
answered text instant (Err (BadMoment at)) form is = absurd (moment_at-no_fault instant at (sym is))
answered text instant (Err (BadDuration at)) form is = (instant, form, is)
answered text instant (Err Negative) form is = (instant, form, is)
answered text instant (Err ZeroRepeats) form is = (instant, form, is)
answered text instant (Err OutOfRange) form is = (instant, form, is)
answered text instant (Err OutOfMemory) form is = (instant, form, is)

not_both : (left : ℕ) (instant : ℕ × ℕ) (r : Result (ℕ × ℕ) ℕ) → r ≡ Err left → r ≡ Ok instant → ⊥
not_both left instant r err ok = cc

place : (text front rest : List ℕ) (b : ℕ) → text ≡ front ++ b ∷ rest → length text - length (b ∷ rest) ≡ length front
place text front rest b is = omega (arith, ap length is, length-append front (b ∷ rest))

fault : (text : List ℕ) (left : ℕ) → instant_at text ≡ Err left → read_moment text ≡ Err (BadMoment (length text - left))
unfolding read_moment
fault text left is = rw is refl

module _ (text : List ℕ) where
  answers_by : (left at : ℕ) → instant_at text ≡ Err left → length text - left ≡ at → MomentFault text at → AnswersMoment text (read_moment text)
  answers_by left at is place_is found = rw (fault text left is, place_is) found

  none_begins : (front : List ℕ) (b : ℕ) → ((y : List ℕ) → instant_at (front ++ b ∷ y) ≡ Err (length (b ∷ y))) → BeginsMoment (front ++ b ∷ []) → ⊥
  none_begins front b goes begins =
      let text_is = append_assoc front (b ∷ []) begins.1 in
      let form = subst (λ (t : List ℕ). MomentText begins.0 t) text_is begins.2 in
      not_both (length (b ∷ begins.1)) begins.0 (instant_at (front ++ b ∷ begins.1)) (goes begins.1) (instant_at-form begins.0 (front ++ b ∷ begins.1) form)

  none_begins_field : (front : List ℕ) (b c : ℕ) → ((y : List ℕ) → instant_at (front ++ b ∷ c ∷ y) ≡ Err (length (b ∷ c ∷ y))) → BeginsMoment (front ++ b ∷ c ∷ []) → ⊥
  none_begins_field front b c goes begins =
      let text_is = append_assoc front (b ∷ c ∷ []) begins.1 in
      let form = subst (λ (t : List ℕ). MomentText begins.0 t) text_is begins.2 in
      not_both (length (b ∷ c ∷ begins.1)) begins.0 (instant_at (front ++ b ∷ c ∷ begins.1)) (goes begins.1) (instant_at-form begins.0 (front ++ b ∷ c ∷ begins.1) form)

  answers_as : Ending (ℕ × ℕ) instant_at MomentText text → AnswersMoment text (read_moment text)
  answers_as (Read instant form goes) = answered text instant (read_moment text) form (read_moment-form instant text form)
  answers_as (Lacks instant z form short) =
      answers_by 0 (length text) short (omega arith) (Missing refl (instant, z, form) (λ other is. not_both 0 other (instant_at text) short (instant_at-form other text is)))
  answers_as (Refuses instant front b rest z form goes is) =
      answers_by (length (b ∷ rest)) (length front) (ap instant_at is ∙ goes rest) (place text front rest b is)
      (BadByte front rest b is refl (instant, z, form) (none_begins front b goes))
  answers_as (Excludes instant front b c rest z form db dc goes is) =
      answers_by (length (b ∷ c ∷ rest)) (length front) (ap instant_at is ∙ goes rest) (place text front (c ∷ rest) b is)
      (BadField front rest b c is refl db dc (instant, z, subst (λ (t : List ℕ). MomentText instant t) (sym (append_assoc front (b ∷ []) z)) form) (none_begins_field front b c goes))

pub read_moment-answers : (text : List ℕ) → AnswersMoment text (read_moment text)
read_moment-answers text = answers_as text (moment_outcome text)
