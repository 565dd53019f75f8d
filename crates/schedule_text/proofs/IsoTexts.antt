-- A text of a duration of ISO 8601, or of a period, is read as its amounts and its count, and no other text is read.
use Rattle.std.proofs.Common.{◌≡◌, ℕ, suc, ◌+◌, ◌-◌, ◌*◌, ◌<◌, ◌==◌, ◌&&◌, ◌||◌, Bool, true, false, if◌then◌else◌, inl, inr, ◌⊎◌, List, [], ◌∷◌, ◌++◌, length, length-append, arith, refl, sym, ap, ◌∙◌, subst, append_assoc, append-nil, Result, Ok, Err}
use Rattle.std.specs.Prelude.{nat_lt}
use Rattle.std.proofs.lemmas.Bool.{eqb-true}
use Rattle.schedule_text.specs.declared.error.ScheduleError.{ScheduleError}
use Rattle.schedule_text.specs.declared.error.ScheduleError.TheVariants.{BadMoment, BadDuration, Negative, ZeroRepeats, OutOfRange, OutOfMemory}
use Rattle.schedule_text.specs.declared.advance.Period.{Period}
use Rattle.schedule_text.specs.GoDurations.{most_nanos, behind_first}
use Rattle.schedule_text.specs.IsoDurations.{begins_with, has_field, field_number, behind_field, left_at, time_at, amounts_at, duration_at, most_months, ranged, iso_duration}
use Rattle.schedule_text.specs.Faults.{FirstFault}
use Rattle.schedule_text.specs.IsoGrammar.{FieldText, TimeText, NoTime, Time, IsoText, IsIso, AnswersIso}
use Rattle.schedule_text.proofs.Sums.{is_or}
use Rattle.schedule_text.proofs.Places.{fault_place}
use Rattle.schedule_text.proofs.IsoPlaces.{duration_placed}
use Rattle.schedule_text.proofs.IsoFields.{begins_is, and_both, and_first, and_second, or_first, or_second, true_false, either_there, either_some, field_read, field_is, no_field}

-- ---- a time

abbrev behind_hours : List ℕ → List ℕ
behind_hours text = behind_field 72 text

abbrev behind_minutes : List ℕ → List ℕ
behind_minutes text = behind_field 77 (behind_hours text)

abbrev behind_seconds : List ℕ → List ℕ
behind_seconds text = behind_field 83 (behind_minutes text)

-- whether a time ends there, and has a field
abbrev is_time : List ℕ → Bool
is_time text = (length (behind_seconds text) == 0) && (has_field 72 text || has_field 77 (behind_hours text) || has_field 83 (behind_minutes text))

abbrev time_value : List ℕ → ℕ
time_value text = field_number false 72 text * 3600000000000 + field_number false 77 (behind_hours text) * 60000000000 + field_number false 83 (behind_minutes text) * 1000000000

time_at-yes : (text : List ℕ) → is_time text ≡ true → time_at false text ≡ Ok (time_value text)
unfolding time_at
time_at-yes text is = rw is refl

time_at-no : (text : List ℕ) → is_time text ≡ false → time_at false text ≡ Err (left_at (has_field 83 (behind_minutes text)) (behind_seconds text))
unfolding time_at
time_at-no text is = rw is refl

nothing_left : (text : List ℕ) → (length text == 0) ≡ true → text ≡ []
nothing_left [] is = refl
nothing_left (b ∷ bs) is = absurd (let none = eqb-true (suc (length bs)) 0 is in omega arith)

time_form : (text : List ℕ) → is_time text ≡ true → TimeText (time_value text) (84 ∷ text)
time_form text is =
    let h = field_read 72 text in
    let m = field_read 77 (behind_hours text) in
    let s = field_read 83 (behind_minutes text) in
    let last = nothing_left (behind_seconds text) (and_first (length (behind_seconds text) == 0) (has_field 72 text || has_field 77 (behind_hours text) || has_field 83 (behind_minutes text)) is) in
    let some =
    either_some (has_field 72 text || has_field 77 (behind_hours text)) (has_field 83 (behind_minutes text)) (h.s ++ m.s) s.s
    (either_some (has_field 72 text) (has_field 77 (behind_hours text)) h.s m.s h.some m.some) s.some
    (and_second (length (behind_seconds text) == 0) (has_field 72 text || has_field 77 (behind_hours text) || has_field 83 (behind_minutes text)) is) in
    let text_is : text ≡ h.s ++ (m.s ++ s.s) = h.text_is ∙ ap (λ (t : List ℕ). h.s ++ t) (m.text_is ∙ ap (λ (t : List ℕ). m.s ++ t) (s.text_is ∙ ap (λ (t : List ℕ). s.s ++ t) last ∙ append-nil s.s)) in
    Time (field_number false 72 text) (field_number false 77 (behind_hours text)) (field_number false 83 (behind_minutes text)) h.s m.s s.s h.is_field m.is_field s.is_field
    some (ap (λ (t : List ℕ). 84 ∷ t) (text_is ∙ sym (append_assoc h.s m.s s.s))) refl

no_ok : (a left : ℕ) (r : Result ℕ ℕ) → r ≡ Ok a → r ≡ Err left → ⊥
no_ok a left r ok err = cc

same_value : (a b : ℕ) (r : Result ℕ ℕ) → r ≡ Ok a → r ≡ Ok b → a ≡ b
same_value a b r first second = cc

time_sound : (text : List ℕ) (nanos : ℕ) → time_at false text ≡ Ok nanos → TimeText nanos (84 ∷ text)
time_sound text nanos ok = elim (is_or (is_time text)) [
  | inl is ↦ subst (λ (n : ℕ). TimeText n (84 ∷ text)) (same_value (time_value text) nanos (time_at false text) (time_at-yes text is) ok) (time_form text is)
  | inr is ↦ absurd (no_ok nanos (left_at (has_field 83 (behind_minutes text)) (behind_seconds text)) (time_at false text) ok (time_at-no text is))
]

time_sum : (h m s hours minutes seconds : ℕ) → h ≡ hours → m ≡ minutes → s ≡ seconds → h * 3600000000000 + m * 60000000000 + s * 1000000000 ≡ hours * 3600000000000 + minutes * 60000000000 + seconds * 1000000000
time_sum h m s hours minutes seconds first second third = rw (first, second, third) refl

-- the fields of a time are read
time_read : (hours minutes seconds : ℕ) (h m s : List ℕ) → FieldText 72 hours h → FieldText 77 minutes m → FieldText 83 seconds s → 0 < length (h ++ m ++ s) → time_at false (h ++ m ++ s) ≡ Ok (hours * 3600000000000 + minutes * 60000000000 + seconds * 1000000000)
time_read hours minutes seconds h m s is_h is_m is_s some =
    let text : List ℕ = h ++ (m ++ (s ++ [])) in
    let whole : h ++ m ++ s ≡ text = append_assoc h m s ∙ ap (λ (t : List ℕ). h ++ (m ++ t)) (sym (append-nil s)) in
    let fs = field_is 83 seconds s [] refl is_s refl in
    let fm = field_is 77 minutes m (s ++ []) refl is_m (no_field 77 83 seconds s [] refl refl is_s refl) in
    let fh = field_is 72 hours h (m ++ (s ++ [])) refl is_h (no_field 72 77 minutes m (s ++ []) refl refl is_m (no_field 72 83 seconds s [] refl refl is_s refl)) in
    let behind_h : behind_hours text ≡ m ++ (s ++ []) = fh.behind in
    let behind_m : behind_minutes text ≡ s ++ [] = ap (λ (t : List ℕ). behind_field 77 t) behind_h ∙ fm.behind in
    let behind_s : behind_seconds text ≡ [] = ap (λ (t : List ℕ). behind_field 83 t) behind_m ∙ fs.behind in
    let there =
    either_there (has_field 72 text || has_field 77 (behind_hours text)) (has_field 83 (behind_minutes text)) (h ++ m) s
    (either_there (has_field 72 text) (has_field 77 (behind_hours text)) h m fh.there (λ more. ap (λ (t : List ℕ). has_field 77 t) behind_h ∙ fm.there more))
    (λ more. ap (λ (t : List ℕ). has_field 83 t) behind_m ∙ fs.there more) some in
    let ends : is_time text ≡ true = and_both (length (behind_seconds text) == 0) (has_field 72 text || has_field 77 (behind_hours text) || has_field 83 (behind_minutes text)) (ap (λ (t : List ℕ). length t == 0) behind_s) there in
    ap (time_at false) whole ∙ time_at-yes text ends
    ∙ ap (λ (n : ℕ). Ok n) (time_sum (field_number false 72 text) (field_number false 77 (behind_hours text)) (field_number false 83 (behind_minutes text)) hours minutes seconds fh.number (ap (λ (t : List ℕ). field_number false 77 t) behind_h ∙ fm.number) (ap (λ (t : List ℕ). field_number false 83 t) behind_m ∙ fs.number))

-- ---- a date and a time

abbrev behind_y : List ℕ → List ℕ
behind_y text = behind_field 89 text

abbrev behind_m : List ℕ → List ℕ
behind_m text = behind_field 77 (behind_y text)

abbrev behind_w : List ℕ → List ℕ
behind_w text = behind_field 87 (behind_m text)

abbrev behind_d : List ℕ → List ℕ
behind_d text = behind_field 68 (behind_w text)

-- whether one of years, months, weeks and days is there
abbrev has_date : List ℕ → Bool
has_date text = has_field 89 text || has_field 77 (behind_y text) || has_field 87 (behind_m text) || has_field 68 (behind_w text)

abbrev months_value : List ℕ → ℕ
months_value text = field_number false 89 text * 12 + field_number false 77 (behind_y text)

abbrev days_value : List ℕ → ℕ
days_value text = field_number false 87 (behind_m text) * 604800000000000 + field_number false 68 (behind_w text) * 86400000000000

amounts_at-time : (text : List ℕ) (time : ℕ) → begins_with 84 (behind_d text) ≡ true → time_at false (behind_first (behind_d text)) ≡ Ok time → amounts_at false text ≡ Ok (months_value text, days_value text + time)
unfolding amounts_at
amounts_at-time text time there is = rw (there, is) refl

pub amounts_at-time_fault : (text : List ℕ) (left : ℕ) → begins_with 84 (behind_d text) ≡ true → time_at false (behind_first (behind_d text)) ≡ Err left → amounts_at false text ≡ Err left
unfolding amounts_at
amounts_at-time_fault text left there is = rw (there, is) refl

amounts_at-date : (text : List ℕ) → begins_with 84 (behind_d text) ≡ false → ((length (behind_d text) == 0) && has_date text) ≡ true → amounts_at false text ≡ Ok (months_value text, days_value text)
unfolding amounts_at
amounts_at-date text none is = rw (none, is) refl

amounts_at-no : (text : List ℕ) → begins_with 84 (behind_d text) ≡ false → ((length (behind_d text) == 0) && has_date text) ≡ false → amounts_at false text ≡ Err (left_at (has_field 68 (behind_w text)) (behind_d text))
unfolding amounts_at
amounts_at-no text none is = rw (none, is) refl

regroup : (a b c d e : List ℕ) → a ++ b ++ c ++ d ++ e ≡ a ++ (b ++ (c ++ (d ++ e)))
regroup a b c d e = simp append_assoc

-- a text is the form of its fields and of a time behind them
amounts_form : (text t : List ℕ) (time : ℕ) (timed : Bool) → TimeText time t → behind_d text ≡ t → (timed ≡ true → 0 < length t) → (has_date text || timed) ≡ true → IsoText (months_value text, days_value text + time) (80 ∷ text)
amounts_form text t time timed is_time rest long there =
    let y = field_read 89 text in
    let m = field_read 77 (behind_y text) in
    let w = field_read 87 (behind_m text) in
    let d = field_read 68 (behind_w text) in
    let text_is : text ≡ y.s ++ (m.s ++ (w.s ++ (d.s ++ t))) =
    y.text_is ∙ ap (λ (t : List ℕ). y.s ++ t) (m.text_is ∙ ap (λ (t : List ℕ). m.s ++ t) (w.text_is ∙ ap (λ (t : List ℕ). w.s ++ t) (d.text_is ∙ ap (λ (t : List ℕ). d.s ++ t) rest))) in
    record {
      years = field_number false 89 text;
      months = field_number false 77 (behind_y text);
      weeks = field_number false 87 (behind_m text);
      days = field_number false 68 (behind_w text);
      time = time;
      y = y.s;
      m = m.s;
      w = w.s;
      d = d.s;
      t = t;
      is_years = y.is_field;
      is_months = m.is_field;
      is_weeks = w.is_field;
      is_days = d.is_field;
      is_time = is_time;
      some =
          either_some (has_date text) timed (y.s ++ m.s ++ w.s ++ d.s) t
          (either_some (has_field 89 text || has_field 77 (behind_y text) || has_field 87 (behind_m text)) (has_field 68 (behind_w text)) (y.s ++ m.s ++ w.s) d.s
          (either_some (has_field 89 text || has_field 77 (behind_y text)) (has_field 87 (behind_m text)) (y.s ++ m.s) w.s
          (either_some (has_field 89 text) (has_field 77 (behind_y text)) y.s m.s y.some m.some) w.some) d.some) long there;
      text_is = ap (λ (t : List ℕ). 80 ∷ t) (text_is ∙ sym (regroup y.s m.s w.s d.s t));
      amounts_is = refl;
    }

outcome : (r : Result ℕ ℕ) → ((a : ℕ) × (r ≡ Ok a)) ⊎ ((left : ℕ) × (r ≡ Err left))
outcome (Ok a) = inl (a, refl)
outcome (Err left) = inr (left, refl)

no_amounts : (a : ℕ × ℕ) (left : ℕ) (r : Result (ℕ × ℕ) ℕ) → r ≡ Ok a → r ≡ Err left → ⊥
no_amounts a left r ok err = cc

same_amounts : (a b : ℕ × ℕ) (r : Result (ℕ × ℕ) ℕ) → r ≡ Ok a → r ≡ Ok b → a ≡ b
same_amounts a b r first second = cc

abbrev pair : ℕ → ℕ → ℕ × ℕ
pair a b = (a, b)

nothing_added : (months days : ℕ) → pair months (days + 0) ≡ pair months days
nothing_added months days = ap (pair months) (let same : days + 0 ≡ days = omega arith in same)

amounts_sound : (text : List ℕ) (amounts : ℕ × ℕ) → amounts_at false text ≡ Ok amounts → IsoText amounts (80 ∷ text)
amounts_sound text amounts ok = elim (is_or (begins_with 84 (behind_d text))) [
  | inl there ↦ elim (outcome (time_at false (behind_first (behind_d text)))) [
    | inl time ↦
        let first = begins_is 84 (behind_d text) there in
        let form = time_sound (behind_first (behind_d text)) time.0 time.1 in
        let rest : behind_d text ≡ 84 ∷ behind_first (behind_d text) = first.1 ∙ ap (λ (t : List ℕ). 84 ∷ behind_first t) (sym first.1) in
        subst (λ (a : ℕ × ℕ). IsoText a (80 ∷ text)) (same_amounts (months_value text, days_value text + time.0) amounts (amounts_at false text) (amounts_at-time text time.0 there time.1) ok)
        (amounts_form text (84 ∷ behind_first (behind_d text)) time.0 true form rest (λ so. omega arith) (or_second (has_date text) true refl))
    | inr fault ↦ absurd (no_amounts amounts fault.0 (amounts_at false text) ok (amounts_at-time_fault text fault.0 there fault.1))
  ]
  | inr none ↦ elim (is_or ((length (behind_d text) == 0) && has_date text)) [
    | inl is ↦
        let last = nothing_left (behind_d text) (and_first (length (behind_d text) == 0) (has_date text) is) in
        subst (λ (a : ℕ × ℕ). IsoText a (80 ∷ text)) (nothing_added (months_value text) (days_value text) ∙ same_amounts (months_value text, days_value text) amounts (amounts_at false text) (amounts_at-date text none is) ok)
        (amounts_form text [] 0 false (NoTime refl refl) last (λ so. absurd (true_false false so refl)) (or_first (has_date text) false (and_second (length (behind_d text) == 0) (has_date text) is)))
    | inr is ↦ absurd (no_amounts amounts (left_at (has_field 68 (behind_w text)) (behind_d text)) (amounts_at false text) ok (amounts_at-no text none is))
  ]
]

-- no field begins with `T`
time_starts : (letter time : ℕ) (t : List ℕ) → TimeText time t → has_field letter t ≡ false
time_starts letter time t (NoTime is value) = rw is refl
time_starts letter time t (Time hours minutes seconds h m s is_h is_m is_s some is value) = rw is refl

pair_sum : (y m w d years months weeks days time : ℕ) → y ≡ years → m ≡ months → w ≡ weeks → d ≡ days → pair (y * 12 + m) (w * 604800000000000 + d * 86400000000000 + time) ≡ pair (years * 12 + months) (weeks * 604800000000000 + days * 86400000000000 + time)
pair_sum y m w d years months weeks days time first second third fourth = rw (first, second, third, fourth) refl

amounts_by : (text t : List ℕ) (time : ℕ) → TimeText time t → behind_d text ≡ t → (length t ≡ 0 → has_date text ≡ true) → amounts_at false text ≡ Ok (months_value text, days_value text + time)
amounts_by text t time (NoTime is value) behind some =
    let rest : behind_d text ≡ [] = behind ∙ is in
    let there = some (ap length is) in
    let ends = and_both (length (behind_d text) == 0) (has_date text) (ap (λ (t : List ℕ). length t == 0) rest) there in
    amounts_at-date text (ap (begins_with 84) rest) ends ∙ ap (λ (a : ℕ × ℕ). Ok a) (sym (nothing_added (months_value text) (days_value text)) ∙ ap (λ (n : ℕ). (months_value text, days_value text + n)) (sym value))
amounts_by text t time (Time hours minutes seconds h m s is_h is_m is_s long is value) behind some =
    let rest : behind_d text ≡ 84 ∷ (h ++ m ++ s) = behind ∙ is in
    amounts_at-time text time (ap (begins_with 84) rest) (ap (λ (t : List ℕ). time_at false (behind_first t)) rest ∙ time_read hours minutes seconds h m s is_h is_m is_s long ∙ ap (λ (n : ℕ). Ok n) (sym value))

long_there : (x t : List ℕ) → 0 < length (x ++ t) → length t ≡ 0 → 0 < length x
long_there x t some none = omega (arith, length-append x t)

amounts_read : (amounts : ℕ × ℕ) (text : List ℕ) → IsoText amounts text → amounts_at false (behind_first text) ≡ Ok amounts
amounts_read amounts text x =
    let text_ : List ℕ = x.y ++ (x.m ++ (x.w ++ (x.d ++ x.t))) in
    let whole : behind_first text ≡ text_ = ap behind_first x.text_is ∙ regroup x.y x.m x.w x.d x.t in
    let no_d = λ (letter : ℕ). time_starts letter x.time x.t x.is_time in
    let fd = field_is 68 x.days x.d x.t refl x.is_days (no_d 68) in
    let fw = field_is 87 x.weeks x.w (x.d ++ x.t) refl x.is_weeks (no_field 87 68 x.days x.d x.t refl refl x.is_days (no_d 87)) in
    let fm = field_is 77 x.months x.m (x.w ++ (x.d ++ x.t)) refl x.is_months (no_field 77 87 x.weeks x.w (x.d ++ x.t) refl refl x.is_weeks (no_field 77 68 x.days x.d x.t refl refl x.is_days (no_d 77))) in
    let fy =
    field_is 89 x.years x.y (x.m ++ (x.w ++ (x.d ++ x.t))) refl x.is_years
    (no_field 89 77 x.months x.m (x.w ++ (x.d ++ x.t)) refl refl x.is_months (no_field 89 87 x.weeks x.w (x.d ++ x.t) refl refl x.is_weeks (no_field 89 68 x.days x.d x.t refl refl x.is_days (no_d 89)))) in
    let by : behind_y text_ ≡ x.m ++ (x.w ++ (x.d ++ x.t)) = fy.behind in
    let bm : behind_m text_ ≡ x.w ++ (x.d ++ x.t) = ap (λ (t : List ℕ). behind_field 77 t) by ∙ fm.behind in
    let bw : behind_w text_ ≡ x.d ++ x.t = ap (λ (t : List ℕ). behind_field 87 t) bm ∙ fw.behind in
    let bd : behind_d text_ ≡ x.t = ap (λ (t : List ℕ). behind_field 68 t) bw ∙ fd.behind in
    let there =
    either_there (has_field 89 text_ || has_field 77 (behind_y text_) || has_field 87 (behind_m text_)) (has_field 68 (behind_w text_)) (x.y ++ x.m ++ x.w) x.d
    (either_there (has_field 89 text_ || has_field 77 (behind_y text_)) (has_field 87 (behind_m text_)) (x.y ++ x.m) x.w
    (either_there (has_field 89 text_) (has_field 77 (behind_y text_)) x.y x.m fy.there (λ more. ap (λ (t : List ℕ). has_field 77 t) by ∙ fm.there more))
    (λ more. ap (λ (t : List ℕ). has_field 87 t) bm ∙ fw.there more))
    (λ more. ap (λ (t : List ℕ). has_field 68 t) bw ∙ fd.there more) in
    let sum =
    pair_sum (field_number false 89 text_) (field_number false 77 (behind_y text_)) (field_number false 87 (behind_m text_)) (field_number false 68 (behind_w text_)) x.years x.months x.weeks x.days x.time
    fy.number (ap (λ (t : List ℕ). field_number false 77 t) by ∙ fm.number) (ap (λ (t : List ℕ). field_number false 87 t) bm ∙ fw.number) (ap (λ (t : List ℕ). field_number false 68 t) bw ∙ fd.number) in
    ap (amounts_at false) whole
    ∙ amounts_by text_ x.t x.time x.is_time bd (λ none. there (long_there (x.y ++ x.m ++ x.w ++ x.d) x.t x.some none))
    ∙ ap (λ (a : ℕ × ℕ). Ok a) (sum ∙ sym x.amounts_is)

-- ---- durations

pub duration_read : (amounts : ℕ × ℕ) (text : List ℕ) → IsoText amounts text → duration_at false text ≡ Ok amounts
duration_read amounts text x =
    let first : begins_with 80 text ≡ true = ap (begins_with 80) x.text_is in
    let read = amounts_read amounts text x in
    rw first read

pub duration_sound : (text : List ℕ) (amounts : ℕ × ℕ) → duration_at false text ≡ Ok amounts → IsoText amounts text
duration_sound text amounts ok = elim (is_or (begins_with 80 text)) [
  | inl there ↦
      let first = begins_is 80 text there in
      let rest : 80 ∷ behind_first text ≡ text = ap (λ (t : List ℕ). 80 ∷ behind_first t) first.1 ∙ sym first.1 in
      subst (λ (t : List ℕ). IsoText amounts t) rest (amounts_sound (behind_first text) amounts (rw there at ok))
  | inr none ↦ absurd (let no : Err (length text) ≡ Ok amounts = rw none at ok in cc)
]

pub amounts_or : (r : Result (ℕ × ℕ) ℕ) → ((a : ℕ × ℕ) × (r ≡ Ok a)) ⊎ ((left : ℕ) × (r ≡ Err left))
amounts_or (Ok a) = inl (a, refl)
amounts_or (Err left) = inr (left, refl)

iso_duration-ok : (text : List ℕ) (amounts : ℕ × ℕ) → duration_at false text ≡ Ok amounts → iso_duration text ≡ ranged amounts
unfolding iso_duration
iso_duration-ok text amounts ok = rw ok refl

pub iso_duration-fault : (text : List ℕ) (left : ℕ) → duration_at false text ≡ Err left → iso_duration text ≡ Err (BadDuration (length text - left))
unfolding iso_duration
iso_duration-fault text left fault = rw fault refl

pub iso_duration-form : (amounts : ℕ × ℕ) (text : List ℕ) → IsoText amounts text → iso_duration text ≡ ranged amounts
iso_duration-form amounts text x = iso_duration-ok text amounts (duration_read amounts text x)

ranged_by : (over : Bool) (period : Period) (e : ScheduleError) → (if over then Err OutOfRange else Ok period) ≡ Err e → e ≡ OutOfRange
ranged_by true period e is = cc
ranged_by false period e is = cc

pub ranged-fault : (amounts : ℕ × ℕ) (e : ScheduleError) → ranged amounts ≡ Err e → e ≡ OutOfRange
ranged-fault amounts e is = ranged_by (nat_lt most_months amounts.0 || nat_lt most_nanos amounts.1) (record { months = amounts.0; nanos = amounts.1 }) e is

bad_is_no_range : (at : ℕ) → BadDuration at ≡ OutOfRange → ⊥
bad_is_no_range at is = cc

answered : (text : List ℕ) (amounts : ℕ × ℕ) (answer : Result Period ScheduleError) → IsoText amounts text → answer ≡ ranged amounts → AnswersIso text answer
answered text amounts (Ok period) form is = (amounts, form, is)
answered text amounts (Err (BadMoment at)) form is = (amounts, form, is)
answered text amounts (Err (BadDuration at)) form is = absurd (bad_is_no_range at (ranged-fault amounts (BadDuration at) (sym is)))
answered text amounts (Err Negative) form is = (amounts, form, is)
answered text amounts (Err ZeroRepeats) form is = (amounts, form, is)
answered text amounts (Err OutOfRange) form is = (amounts, form, is)
answered text amounts (Err OutOfMemory) form is = (amounts, form, is)

fault_at : (text : List ℕ) (left : ℕ) → duration_at false text ≡ Err left → FirstFault IsIso text (length text - left)
fault_at text left fault =
    fault_place (duration_at false) IsIso (λ text a ok. (a, duration_sound text a ok)) (λ text form. (form.0, duration_read form.0 text form.1)) text left fault (duration_placed text)

pub iso_duration-answers : (text : List ℕ) → AnswersIso text (iso_duration text)
iso_duration-answers text = elim (amounts_or (duration_at false text)) [
  | inl ok ↦ answered text ok.0 (iso_duration text) (duration_sound text ok.0 ok.1) (iso_duration-ok text ok.0 ok.1)
  | inr fault ↦ rw (iso_duration-fault text fault.0 fault.1) (fault_at text fault.0 fault.1)
]
