-- The forms of durations and periods of ISO 8601, said without a reader: which bytes stand there, and what they are
-- worth.
use Rattle.std.specs.Prelude.{◌≡◌, ℕ, ◌+◌, ◌*◌, ◌<◌, ◌==◌, if◌then◌else◌, List, [], ◌∷◌, ◌++◌, length, Option, None, Some, Result, Ok, Err}
use Rattle.schedule_text.specs.declared.error.ScheduleError.{ScheduleError}
use Rattle.schedule_text.specs.declared.error.ScheduleError.TheVariants.{BadDuration, ZeroRepeats}
use Rattle.schedule_text.specs.declared.advance.Period.{Period}
use Rattle.schedule_text.specs.Reading.{◌>>=◌}
use Rattle.schedule_text.specs.IsoDurations.{ranged, counted}
use Rattle.schedule_text.specs.Faults.{FirstFault}
use Rattle.schedule_text.specs.Grammar.{AreDigits, value_of}

-- ---- durations

-- a number and its letter; or nothing, which counts as 0
pub data FieldText (letter n : ℕ) (text : List ℕ) : Type 0 where
  NoField : text ≡ [] → n ≡ 0 → FieldText letter n text
  Field : (digits : List ℕ) → AreDigits digits → 0 < length digits → text ≡ digits ++ letter ∷ [] → n ≡ value_of digits → FieldText letter n text

-- `T` and then hours (`H`), minutes (`M`) and seconds (`S`), at least one of them; or nothing, which counts as 0
pub data TimeText (nanos : ℕ) (text : List ℕ) : Type 0 where
  NoTime : text ≡ [] → nanos ≡ 0 → TimeText nanos text
  Time : (hours minutes seconds : ℕ) (h m s : List ℕ) → FieldText 72 hours h → FieldText 77 minutes m → FieldText 83 seconds s → 0 < length (h ++ m ++ s) → text ≡ 84 ∷ (h ++ m ++ s) → nanos ≡ hours * 3600000000000 + minutes * 60000000000 + seconds * 1000000000 → TimeText nanos text

-- `P` and then years (`Y`), months (`M`), weeks (`W`), days (`D`) and a time, at least one of them. The amounts are
-- months and nanoseconds.
pub record IsoText (amounts : ℕ × ℕ) (text : List ℕ) : Type 0 where
  pub years : ℕ
  pub months : ℕ
  pub weeks : ℕ
  pub days : ℕ
  pub time : ℕ
  pub y : List ℕ
  pub m : List ℕ
  pub w : List ℕ
  pub d : List ℕ
  pub t : List ℕ
  pub is_years : FieldText 89 years y
  pub is_months : FieldText 77 months m
  pub is_weeks : FieldText 87 weeks w
  pub is_days : FieldText 68 days d
  pub is_time : TimeText time t
  pub some : 0 < length (y ++ m ++ w ++ d ++ t)
  pub text_is : text ≡ 80 ∷ (y ++ m ++ w ++ d ++ t)
  pub amounts_is : amounts ≡ (years * 12 + months, weeks * 604800000000000 + days * 86400000000000 + time)

-- a text of a duration
abbrev pub IsIso : List ℕ → Type 0
IsIso text = (amounts : ℕ × ℕ) × IsoText amounts text

-- What is answered to a text: a fault is placed at the first byte that no text of a duration has there; anything else is
-- the answer for its amounts.
abbrev pub AnswersIso : List ℕ → Result Period ScheduleError → Type 0
AnswersIso text (Err (BadDuration at)) = FirstFault IsIso text at
AnswersIso text answer = (amounts : ℕ × ℕ) × IsoText amounts text × (answer ≡ ranged amounts)

-- ---- periods

-- `R`, digits and `/`
pub data CountText (count : ℕ) (text : List ℕ) : Type 0 where
  Count : (digits : List ℕ) → AreDigits digits → 0 < length digits → text ≡ 82 ∷ (digits ++ 47 ∷ []) → count ≡ value_of digits → CountText count text

-- a duration, alone or behind the count of its repetitions
pub data PeriodText (count : Option ℕ) (amounts : ℕ × ℕ) (text : List ℕ) : Type 0 where
  Alone : count ≡ None → IsoText amounts text → PeriodText count amounts text
  Counted : (n : ℕ) (front duration : List ℕ) → CountText n front → IsoText amounts duration → text ≡ front ++ duration → count ≡ Some n → PeriodText count amounts text

-- a text that begins with a count of 0, whatever follows
abbrev pub BeginsZero : List ℕ → Type 0
BeginsZero text = (front : List ℕ) × (rest : List ℕ) × CountText 0 front × (text ≡ front ++ rest)

-- the period of a count and amounts, if they are in range
abbrev pub ranged_period : Option ℕ → ℕ × ℕ → Result (Period × Option ℕ) ScheduleError
ranged_period None amounts = ranged amounts >>= λ period. Ok (period, None)
ranged_period (Some count) amounts = if count == 0 then Err ZeroRepeats else counted count amounts

-- a text of a period
abbrev pub IsPeriod : List ℕ → Type 0
IsPeriod text = (count : Option ℕ) × (amounts : ℕ × ℕ) × PeriodText count amounts text

-- What is answered to a text: a fault is placed at the first byte that no text of a period has there; a count of 0 is
-- refused whatever follows it; anything else is the answer for its count and its amounts.
abbrev pub AnswersPeriod : List ℕ → Result (Period × Option ℕ) ScheduleError → Type 0
AnswersPeriod text (Err (BadDuration at)) = FirstFault IsPeriod text at
AnswersPeriod text (Err ZeroRepeats) = BeginsZero text
AnswersPeriod text answer = (count : Option ℕ) × (amounts : ℕ × ℕ) × PeriodText count amounts text × (answer ≡ ranged_period count amounts)
