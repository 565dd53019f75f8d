-- The forms of the texts of schedules, said without a reader: which bytes stand there, and what they are worth.
-- Moments follow RFC 3339, section 5.6, and durations the package time of Go and ISO 8601.
use Rattle.std.specs.Prelude.{◌≡◌, ℕ, ◌+◌, ◌-◌, ◌*◌, ◌/◌, ◌^◌, ◌<◌, ◌≤◌, ◌⊎◌, Bool, true, false, pos, List, [], ◌∷◌, ◌++◌, length, Result, Err}
use Rattle.jiff_core.specs.Calendar.{days_in_month}
use Rattle.schedule_text.specs.declared.error.ScheduleError.{ScheduleError}
use Rattle.schedule_text.specs.declared.error.ScheduleError.TheVariants.{BadMoment, BadDuration}
use Rattle.schedule_text.specs.Calendar.{CivilDate, days_to}
use Rattle.schedule_text.specs.Numbers.{is_digit}
use Rattle.schedule_text.specs.Faults.{FirstFault}
use Rattle.schedule_text.specs.GoDurations.{signed_sum}
use Rattle.schedule_text.specs.Moments.{two_digits, date_text, utc_seconds, moment_at}

-- ---- numbers

-- all bytes are digits
abbrev pub AreDigits : List ℕ → Type 0
AreDigits [] = Unit {0}
AreDigits (b ∷ bs) = (is_digit b ≡ true) × AreDigits bs

-- the number that digits spell: each digit counts ten times as much as the one behind it
abbrev pub value_of : List ℕ → ℕ
value_of [] = 0
value_of (b ∷ bs) = (b - 48) * 10 ^ length bs + value_of bs

-- ---- moments

-- a date that the calendar has, in a year of four digits
pub record IsDate (date : CivilDate) : Type 0 where
  pub year : date.year ≤ 9999
  pub month : (1 ≤ date.month) × (date.month ≤ 12)
  pub day : (1 ≤ date.day) × (date.day ≤ days_in_month (pos date.year) date.month)

-- `T` or `t`, between a date and a time
abbrev pub IsJoint : ℕ → Type 0
IsJoint b = (b ≡ 84) ⊎ (b ≡ 116)

-- the nanoseconds of a fraction of a second: nothing, or a point and one to nine digits
pub data FractionText (nanos : ℕ) (text : List ℕ) : Type 0 where
  Whole : text ≡ [] → nanos ≡ 0 → FractionText nanos text
  Fraction : (digits : List ℕ) → AreDigits digits → 0 < length digits → length digits ≤ 9 → text ≡ 46 ∷ digits → nanos ≡ value_of digits * 10 ^ (9 - length digits) → FractionText nanos text

-- an offset from UTC: whether it is behind UTC, and its seconds
pub data ZoneText (offset : Bool × ℕ) (text : List ℕ) : Type 0 where
  Utc : text ≡ 90 ∷ [] → offset ≡ (false, 0) → ZoneText offset text
  SmallUtc : text ≡ 122 ∷ [] → offset ≡ (false, 0) → ZoneText offset text
  Ahead : (hour minute : ℕ) → hour ≤ 23 → minute ≤ 59 → text ≡ 43 ∷ two_digits hour ++ 58 ∷ two_digits minute → offset ≡ (false, hour * 3600 + minute * 60) → ZoneText offset text
  Behind : (hour minute : ℕ) → hour ≤ 23 → minute ≤ 59 → text ≡ 45 ∷ two_digits hour ++ 58 ∷ two_digits minute → offset ≡ (true, hour * 3600 + minute * 60) → ZoneText offset text

-- A text of a date, a time, a fraction and an offset, by its fields. The instant is the seconds in UTC from the first
-- day of the year -10000 on, and the nanoseconds.
pub record MomentText (instant : ℕ × ℕ) (text : List ℕ) : Type 0 where
  pub date : CivilDate
  pub hour : ℕ
  pub minute : ℕ
  pub second : ℕ
  pub nanos : ℕ
  pub offset : Bool × ℕ
  pub joint : ℕ
  pub fraction : List ℕ
  pub zone : List ℕ
  pub is_date : IsDate date
  pub is_hour : hour ≤ 23
  pub is_minute : minute ≤ 59
  pub is_second : second ≤ 59
  pub is_joint : IsJoint joint
  pub is_fraction : FractionText nanos fraction
  pub is_zone : ZoneText offset zone
  pub text_is : text ≡ date_text date ++ joint ∷ two_digits hour ++ 58 ∷ two_digits minute ++ 58 ∷ two_digits second ++ fraction ++ zone
  pub instant_is : instant ≡ (utc_seconds (days_to date.year date.month date.day * 86400 + (hour * 3600 + minute * 60 + second)) offset, nanos)

-- some text of a moment begins with these bytes
abbrev pub BeginsMoment : List ℕ → Type 0
BeginsMoment front = (instant : ℕ × ℕ) × (rest : List ℕ) × MomentText instant (front ++ rest)

-- The first byte that no text of a moment has there: one begins with the bytes before it, and none with that byte, too.
-- At the text's end that byte is missing.
pub data MomentFault (text : List ℕ) (at : ℕ) : Type 0 where
  Missing : at ≡ length text → BeginsMoment text → ((instant : ℕ × ℕ) → MomentText instant text → ⊥) → MomentFault text at
  BadByte : (front rest : List ℕ) (b : ℕ) → text ≡ front ++ b ∷ rest → at ≡ length front → BeginsMoment front → (BeginsMoment (front ++ b ∷ []) → ⊥) → MomentFault text at
  BadField : (front rest : List ℕ) (b c : ℕ) → text ≡ front ++ b ∷ c ∷ rest → at ≡ length front → is_digit b ≡ true → is_digit c ≡ true → BeginsMoment (front ++ b ∷ []) → (BeginsMoment (front ++ b ∷ c ∷ []) → ⊥) → MomentFault text at

-- What is answered to a text: a fault is placed at the first byte that no text of a moment has there, or at a field
-- whose digits are out of range; anything else is the answer for the instant that the text spells.
abbrev pub AnswersMoment : List ℕ → Result ℕ ScheduleError → Type 0
AnswersMoment text (Err (BadMoment at)) = MomentFault text at
AnswersMoment text answer = (instant : ℕ × ℕ) × MomentText instant text × (answer ≡ moment_at instant)

-- ---- durations as Go writes them

-- a unit and its nanoseconds; the letter mu is U+00B5 or U+03BC
pub data UnitText (nanos : ℕ) (text : List ℕ) : Type 0 where
  Hour : text ≡ 104 ∷ [] → nanos ≡ 3600000000000 → UnitText nanos text
  Minute : text ≡ 109 ∷ [] → nanos ≡ 60000000000 → UnitText nanos text
  Second : text ≡ 115 ∷ [] → nanos ≡ 1000000000 → UnitText nanos text
  Milli : text ≡ 109 ∷ 115 ∷ [] → nanos ≡ 1000000 → UnitText nanos text
  Micro : text ≡ 117 ∷ 115 ∷ [] → nanos ≡ 1000 → UnitText nanos text
  MicroSign : text ≡ 194 ∷ 181 ∷ 115 ∷ [] → nanos ≡ 1000 → UnitText nanos text
  GreekMu : text ≡ 206 ∷ 188 ∷ 115 ∷ [] → nanos ≡ 1000 → UnitText nanos text
  Nano : text ≡ 110 ∷ 115 ∷ [] → nanos ≡ 1 → UnitText nanos text

-- digits; or digits on the two sides of a point, at least one in all and at most nine behind it
pub data LiteralText (whole fraction text : List ℕ) : Type 0 where
  Plain : text ≡ whole → fraction ≡ [] → 0 < length whole → LiteralText whole fraction text
  Pointed : text ≡ whole ++ 46 ∷ fraction → 0 < length whole + length fraction → length fraction ≤ 9 → LiteralText whole fraction text

-- a literal and its unit, and their product cut down to whole nanoseconds
pub record TermText (nanos : ℕ) (text : List ℕ) : Type 0 where
  pub whole : List ℕ
  pub fraction : List ℕ
  pub literal : List ℕ
  pub unit : ℕ
  pub unit_text : List ℕ
  pub are_digits : AreDigits whole × AreDigits fraction
  pub is_literal : LiteralText whole fraction literal
  pub is_unit : UnitText unit unit_text
  pub text_is : text ≡ literal ++ unit_text
  pub nanos_is : nanos ≡ (value_of whole * 1000000000 + value_of fraction * 10 ^ (9 - length fraction)) * unit / 1000000000

-- one or more terms, and their sum
pub data TermsText : ℕ → List ℕ → Type 0 where
  Last : {sum : ℕ} {text : List ℕ} → TermText sum text → TermsText sum text
  More : {sum : ℕ} {text : List ℕ} (first rest : ℕ) (s z : List ℕ) → TermText first s → TermsText rest z → text ≡ s ++ z → sum ≡ first + rest → TermsText sum text

-- a sign, or none
pub data SignText (negative : Bool) (text : List ℕ) : Type 0 where
  NoSign : text ≡ [] → negative ≡ false → SignText negative text
  Plus : text ≡ 43 ∷ [] → negative ≡ false → SignText negative text
  Minus : text ≡ 45 ∷ [] → negative ≡ true → SignText negative text

-- a sign, and then `0` alone or terms
pub data GoText (negative : Bool) (sum : ℕ) (text : List ℕ) : Type 0 where
  Zero : (sign : List ℕ) → SignText negative sign → text ≡ sign ++ 48 ∷ [] → sum ≡ 0 → GoText negative sum text
  Terms : (sign terms : List ℕ) → SignText negative sign → TermsText sum terms → text ≡ sign ++ terms → GoText negative sum text

-- a text of a duration
abbrev pub IsGo : List ℕ → Type 0
IsGo text = (negative : Bool) × (sum : ℕ) × GoText negative sum text

-- What is answered to a text: a fault is placed at the first byte that no text of a duration has there; anything else is
-- the answer for its sign and its sum.
abbrev pub AnswersGo : List ℕ → Result ℕ ScheduleError → Type 0
AnswersGo text (Err (BadDuration at)) = FirstFault IsGo text at
AnswersGo text answer = (negative : Bool) × (sum : ℕ) × GoText negative sum text × (answer ≡ signed_sum negative sum)
