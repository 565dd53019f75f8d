-- The sums that the code cuts at 64 bits are in range exactly if the exact ones are, and are the same then.
use Rattle.std.proofs.Common.{◌≡◌, ℕ, zero, suc, ◌+◌, ◌-◌, ◌*◌, ◌<◌, ◌≤◌, ◌==◌, ◌&&◌, ◌||◌, Bool, true, false, inl, inr, ◌⊎◌, if◌then◌else◌, List, [], ◌∷◌, length, take, drop, arith, refl, sym, ap, ◌∙◌, Result, Ok, Err}
use Rattle.std.specs.Prelude.{nat_lt, nat_le}
use Rattle.std.proofs.Math.Nat.{mul-le-mul_left}
use Rattle.std.proofs.lemmas.List.{take_all}
use Rattle.std.proofs.lemmas.Bool.{cases_lt, lt-ltb, le-ltb, lt-leb, ne_eqb, eqb-true, false≢true}
use Rattle.schedule_text.specs.declared.error.ScheduleError.TheVariants.{BadDuration, ZeroRepeats}
use Rattle.schedule_text.specs.Numbers.{kept, is_digit, begins_with_digit, number_from, behind_digits}
use Rattle.schedule_text.specs.Reading.{◌>>=◌}
use Rattle.schedule_text.specs.GoDurations.{most_nanos, unit_at, begins_with_point, behind_first, literal_at, term_nanos, term_at, terms_from, is_zero_alone, sum_at, behind_sign, is_negative, placed, signed_sum, go_nanos}
use Rattle.schedule_text.specs.IsoDurations.{begins_with, has_field, field_number, behind_field, left_at, time_at, amounts_at, duration_at, most_months, ranged, iso_duration, count_at, counted, repeated, iso_period}

pub is_or : (b : Bool) → (b ≡ true) ⊎ (b ≡ false)
is_or true = inl refl
is_or false = inr refl

-- ---- numbers

kept-sum : (x y : ℕ) → kept true (kept true x + kept true y) ≡ kept true (x + y)
kept-sum x y = omega arith

kept-left : (x y : ℕ) → kept true (kept true x + y) ≡ kept true (x + y)
kept-left x y = omega arith

kept-digit : (n d : ℕ) → kept true (kept true n * 10 + d) ≡ kept true (n * 10 + d)
kept-digit n d = omega arith

kept-low : (n : ℕ) → n ≤ 18446744073709551615 → kept true n ≡ n
kept-low n low = omega arith

kept-high : (n : ℕ) → 18446744073709551615 ≤ n → kept true n ≡ 18446744073709551615
kept-high n high = omega arith

kept-product : (n unit : ℕ) → kept true (kept true n * unit) ≡ kept true (n * unit)
kept-product n unit = elim (cases_lt n 18446744073709551615) [
  | inl low ↦ let same = kept-low n (omega arith) in rw same refl
  | inr high ↦
      let most = kept-high n high in
      elim (cases_lt 0 unit) [
        | inl some ↦
            let one : 18446744073709551615 * 1 ≤ 18446744073709551615 * unit = mul-le-mul_left 18446744073709551615 some in
            let more : unit * 18446744073709551615 ≤ unit * n = mul-le-mul_left unit high in
            rw most (kept-high (18446744073709551615 * unit) (omega arith) ∙ sym (kept-high (n * unit) (omega arith)))
        | inr none ↦ let nothing : unit ≡ 0 = omega arith in rw nothing (omega arith)
      ]
]

number_by : (n b : ℕ) (bs : List ℕ) (digit : Bool)
    → number_from true (kept true (n * 10 + (b - 48))) bs ≡ kept true (number_from false (n * 10 + (b - 48)) bs)
    → (if digit then number_from true (kept true (kept true n * 10 + (b - 48))) bs else kept true n) ≡ kept true (if digit then number_from false (n * 10 + (b - 48)) bs else n)
number_by n b bs true rest = rw (kept-digit n (b - 48)) rest
number_by n b bs false rest = refl

number-cut : (n : ℕ) (text : List ℕ) → number_from true (kept true n) text ≡ kept true (number_from false n text)
number-cut n [] = refl
number-cut n (b ∷ bs) = number_by n b bs (is_digit b) (number-cut (n * 10 + (b - 48)) bs)

whole-cut : (text : List ℕ) → number_from true 0 text ≡ kept true (number_from false 0 text)
whole-cut text = number-cut 0 text

-- ---- durations as Go writes them

abbrev cut_sum : Result ℕ ℕ → Result ℕ ℕ
cut_sum (Ok n) = Ok (kept true n)
cut_sum (Err left) = Err left

abbrev cut_number : Result (ℕ × List ℕ) ℕ → Result (ℕ × List ℕ) ℕ
cut_number (Ok x) = Ok (kept true x.0, x.1)
cut_number (Err left) = Err left

abbrev cut_literal : Result ((ℕ × ℕ) × List ℕ) ℕ → Result ((ℕ × ℕ) × List ℕ) ℕ
cut_literal (Ok x) = Ok ((kept true x.0.0, x.0.1), x.1)
cut_literal (Err left) = Err left

abbrev literal_of : Bool → Bool → Bool → ℕ → ℕ → List ℕ → List ℕ → List ℕ → ℕ → Result ((ℕ × ℕ) × List ℕ) ℕ
literal_of point before more whole billionths behind text rest left =
    if point
    then (if before || more then Ok ((whole, billionths), behind) else Err (length text))
    else (if before then Ok ((whole, 0), rest) else Err left)

literal_by : (point before more : Bool) (whole billionths : ℕ) (behind text rest : List ℕ) (left : ℕ)
    → literal_of point before more (kept true whole) billionths behind text rest left ≡ cut_literal (literal_of point before more whole billionths behind text rest left)
literal_by true true more whole billionths behind text rest left = refl
literal_by true false true whole billionths behind text rest left = refl
literal_by true false false whole billionths behind text rest left = refl
literal_by false true more whole billionths behind text rest left = refl
literal_by false false more whole billionths behind text rest left = refl

literal-cut : (text : List ℕ) → literal_at true text ≡ cut_literal (literal_at false text)
literal-cut text = rw (whole-cut text) (literal_by (begins_with_point (behind_digits text)) (begins_with_digit text) (begins_with_digit (behind_first (behind_digits text))) (number_from false 0 text) _ _ _ _ _)

term_nanos-cut : (literal : ℕ × ℕ) (unit : ℕ) → term_nanos true (kept true literal.0, literal.1) unit ≡ kept true (term_nanos false literal unit)
term_nanos-cut literal unit = rw (kept-product literal.0 unit) (kept-left (literal.0 * unit) _)

term_unit : (literal : ℕ × ℕ) (unit : Result (ℕ × List ℕ) ℕ)
    → (unit >>= λ u. Ok (term_nanos true (kept true literal.0, literal.1) u.0, u.1)) ≡ cut_number (unit >>= λ u. Ok (term_nanos false literal u.0, u.1))
term_unit literal (Ok u) = rw (term_nanos-cut literal u.0) refl
term_unit literal (Err left) = refl

term_by : (literal : Result ((ℕ × ℕ) × List ℕ) ℕ)
    → (cut_literal literal >>= λ l. unit_at l.1 >>= λ u. Ok (term_nanos true l.0 u.0, u.1)) ≡ cut_number (literal >>= λ l. unit_at l.1 >>= λ u. Ok (term_nanos false l.0 u.0, u.1))
term_by (Ok l) = term_unit l.0 (unit_at l.1)
term_by (Err left) = refl

term-cut : (text : List ℕ) → term_at true text ≡ cut_number (term_at false text)
unfolding term_at
term-cut text = rw (literal-cut text) (term_by (literal_at false text))

terms_by : (most sum : ℕ) (term : Result (ℕ × List ℕ) ℕ)
    → ((n : ℕ) (text : List ℕ) → terms_from true most (kept true n) text ≡ cut_sum (terms_from false most n text))
    → (cut_number term >>= λ x. terms_from true most (kept true (kept true sum + x.0)) x.1) ≡ cut_sum (term >>= λ x. terms_from false most (sum + x.0) x.1)
terms_by most sum (Ok x) rest = rw (kept-sum sum x.0) (rest (sum + x.0) x.1)
terms_by most sum (Err left) rest = refl

terms-cut : (most sum : ℕ) (text : List ℕ) → terms_from true most (kept true sum) text ≡ cut_sum (terms_from false most sum text)
unfolding terms_from
terms-cut zero sum [] = refl
terms-cut zero sum (b ∷ bs) = refl
terms-cut (suc most) sum [] = refl
terms-cut (suc most) sum (b ∷ bs) = rw (term-cut (b ∷ bs)) (terms_by most sum (term_at false (b ∷ bs)) (terms-cut most))

sum_by : (alone none : Bool) (sum : Result ℕ ℕ) → (if alone then Ok 0 else (if none then Err 0 else cut_sum sum)) ≡ cut_sum (if alone then Ok 0 else (if none then Err 0 else sum))
sum_by true none sum = refl
sum_by false true sum = refl
sum_by false false sum = refl

sum-cut : (text : List ℕ) → sum_at true text ≡ cut_sum (sum_at false text)
sum-cut text = rw (terms-cut (length text) 0 text) (sum_by (is_zero_alone text) (length text == 0) (terms_from false (length text) 0 text))

signed_high : (negative : Bool) (sum : ℕ) → 18446744073709551615 ≤ sum → signed_sum negative 18446744073709551615 ≡ signed_sum negative sum
signed_high true sum high = let some : (sum == 0) ≡ false = ne_eqb sum 0 (λ none. omega arith) in rw some refl
signed_high false sum high = let late : nat_le sum most_nanos ≡ false = lt-leb sum most_nanos (omega arith) in rw late refl

signed-cut : (negative : Bool) (sum : ℕ) → signed_sum negative (kept true sum) ≡ signed_sum negative sum
signed-cut negative sum = elim (cases_lt sum 18446744073709551615) [
  | inl low ↦ ap (signed_sum negative) (kept-low sum (omega arith))
  | inr high ↦ ap (signed_sum negative) (kept-high sum high) ∙ signed_high negative sum high
]

go_by : (text : List ℕ) (negative : Bool) (sum : Result ℕ ℕ) → (placed text (cut_sum sum) >>= λ n. signed_sum negative n) ≡ (placed text sum >>= λ n. signed_sum negative n)
go_by text negative (Ok n) = signed-cut negative n
go_by text negative (Err left) = refl

go_nanos-cut : (text : List ℕ) → (placed text (sum_at true (behind_sign text)) >>= λ n. signed_sum (is_negative text) n) ≡ go_nanos text
unfolding go_nanos
go_nanos-cut text = rw (sum-cut (behind_sign text)) (go_by text (is_negative text) (sum_at false (behind_sign text)))

pub go_nanos_ok : (text : List ℕ) (sum : ℕ) → sum_at true (behind_sign text) ≡ Ok sum → go_nanos text ≡ signed_sum (is_negative text) sum
go_nanos_ok text sum is = sym (go_nanos-cut text) ∙ rw is refl

pub go_nanos_err : (text : List ℕ) (left : ℕ) → sum_at true (behind_sign text) ≡ Err left → go_nanos text ≡ Err (BadDuration (length text - left))
go_nanos_err text left is = sym (go_nanos-cut text) ∙ rw is refl

-- ---- durations of ISO 8601

field_by : (found : Bool) (n : ℕ) → (if found then kept true n else 0) ≡ kept true (if found then n else 0)
field_by true n = refl
field_by false n = refl

field-cut : (letter : ℕ) (text : List ℕ) → field_number true letter text ≡ kept true (field_number false letter text)
field-cut letter text = rw (whole-cut text) (field_by (has_field letter text) (number_from false 0 text))

time_by : (found : Bool) (left hours minutes seconds : ℕ)
    → (if found then Ok (kept true (kept true (kept true (kept true hours * 3600000000000) + kept true (kept true minutes * 60000000000)) + kept true (kept true seconds * 1000000000))) else Err left)
    ≡ cut_sum (if found then Ok (hours * 3600000000000 + minutes * 60000000000 + seconds * 1000000000) else Err left)
time_by true left hours minutes seconds =
    rw (kept-product hours 3600000000000, kept-product minutes 60000000000, kept-product seconds 1000000000, kept-sum (hours * 3600000000000) (minutes * 60000000000), kept-sum (hours * 3600000000000 + minutes * 60000000000) (seconds * 1000000000)) refl
time_by false left hours minutes seconds = refl

time-cut : (text : List ℕ) → time_at true text ≡ cut_sum (time_at false text)
unfolding time_at
time-cut text =
    let behind_h = behind_field 72 text in
    let behind_m = behind_field 77 behind_h in
    let behind_s = behind_field 83 behind_m in
    rw (field-cut 72 text, field-cut 77 behind_h, field-cut 83 behind_m) (time_by ((length behind_s == 0) && (has_field 72 text || has_field 77 behind_h || has_field 83 behind_m)) (left_at (has_field 83 behind_m) behind_s) (field_number false 72 text) (field_number false 77 behind_h) (field_number false 83 behind_m))

abbrev cut_amounts : Result (ℕ × ℕ) ℕ → Result (ℕ × ℕ) ℕ
cut_amounts (Ok x) = Ok (kept true x.0, kept true x.1)
cut_amounts (Err left) = Err left

months-cut : (years months : ℕ) → kept true (kept true (kept true years * 12) + kept true months) ≡ kept true (years * 12 + months)
months-cut years months = rw (kept-product years 12) (kept-sum (years * 12) months)

days-cut : (weeks days : ℕ) → kept true (kept true (kept true weeks * 604800000000000) + kept true (kept true days * 86400000000000)) ≡ kept true (weeks * 604800000000000 + days * 86400000000000)
days-cut weeks days = rw (kept-product weeks 604800000000000, kept-product days 86400000000000) (kept-sum (weeks * 604800000000000) (days * 86400000000000))

with_time : (months days : ℕ) (time : Result ℕ ℕ)
    → (cut_sum time >>= λ t. Ok (kept true months, kept true (kept true days + t))) ≡ cut_amounts (time >>= λ t. Ok (months, days + t))
with_time months days (Ok t) = rw (kept-sum days t) refl
with_time months days (Err left) = refl

amounts_by : (has_time found : Bool) (months days left : ℕ) (time : Result ℕ ℕ)
    → (if has_time then (cut_sum time >>= λ t. Ok (kept true months, kept true (kept true days + t))) else (if found then Ok (kept true months, kept true days) else Err left))
    ≡ cut_amounts (if has_time then (time >>= λ t. Ok (months, days + t)) else (if found then Ok (months, days) else Err left))
amounts_by true found months days left time = with_time months days time
amounts_by false true months days left time = refl
amounts_by false false months days left time = refl

amounts-cut : (text : List ℕ) → amounts_at true text ≡ cut_amounts (amounts_at false text)
unfolding amounts_at
amounts-cut text =
    let behind_y = behind_field 89 text in
    let behind_m = behind_field 77 behind_y in
    let behind_w = behind_field 87 behind_m in
    let behind_d = behind_field 68 behind_w in
    rw (field-cut 89 text, field-cut 77 behind_y, field-cut 87 behind_m, field-cut 68 behind_w, months-cut (field_number false 89 text) (field_number false 77 behind_y), days-cut (field_number false 87 behind_m) (field_number false 68 behind_w), time-cut (behind_first behind_d))
    (amounts_by (begins_with 84 behind_d) ((length behind_d == 0) && (has_field 89 text || has_field 77 behind_y || has_field 87 behind_m || has_field 68 behind_w)) (field_number false 89 text * 12 + field_number false 77 behind_y) (field_number false 87 behind_m * 604800000000000 + field_number false 68 behind_w * 86400000000000) (left_at (has_field 68 behind_w) behind_d) (time_at false (behind_first behind_d)))

duration_by : (there : Bool) (left : ℕ) (amounts : Result (ℕ × ℕ) ℕ) → (if there then cut_amounts amounts else Err left) ≡ cut_amounts (if there then amounts else Err left)
duration_by true left amounts = refl
duration_by false left amounts = refl

duration-cut : (text : List ℕ) → duration_at true text ≡ cut_amounts (duration_at false text)
duration-cut text = rw (amounts-cut (behind_first text)) (duration_by (begins_with 80 text) (length text) (amounts_at false (behind_first text)))

above-cut : (most n : ℕ) → most < 18446744073709551615 → nat_lt most (kept true n) ≡ nat_lt most n
above-cut most n low = elim (cases_lt n 18446744073709551615) [
  | inl small ↦ ap (nat_lt most) (kept-low n (omega arith))
  | inr high ↦ ap (nat_lt most) (kept-high n high) ∙ lt-ltb most 18446744073709551615 low ∙ sym (lt-ltb most n (omega arith))
]

ranged-low : (months nanos : ℕ) → ranged (kept true months, kept true nanos) ≡ ranged (months, nanos)
ranged-low months nanos = elim (cases_lt most_months months) [
  | inl many ↦
      let there : nat_lt most_months months ≡ true = lt-ltb most_months months many in
      let here : nat_lt most_months (kept true months) ≡ true = above-cut most_months months (omega arith) ∙ there in
      rw (here, there) refl
  | inr few ↦
      let same = kept-low months (omega arith) in
      elim (cases_lt most_nanos nanos) [
        | inl long ↦
            let there : nat_lt most_nanos nanos ≡ true = lt-ltb most_nanos nanos long in
            let here : nat_lt most_nanos (kept true nanos) ≡ true = above-cut most_nanos nanos (omega arith) ∙ there in
            let low : nat_lt most_months months ≡ false = le-ltb most_months months few in
            let low_here : nat_lt most_months (kept true months) ≡ false = above-cut most_months months (omega arith) ∙ low in
            rw (here, there, low_here, low) refl
        | inr short ↦ let same_nanos = kept-low nanos (omega arith) in rw (same, same_nanos) refl
      ]
]

ranged_by : (text : List ℕ) (amounts : Result (ℕ × ℕ) ℕ) → (placed text (cut_amounts amounts) >>= λ x. ranged x) ≡ (placed text amounts >>= λ x. ranged x)
ranged_by text (Ok x) = ranged-low x.0 x.1
ranged_by text (Err left) = refl

iso_duration-cut : (text : List ℕ) → (placed text (duration_at true text) >>= λ x. ranged x) ≡ iso_duration text
unfolding iso_duration
iso_duration-cut text = rw (duration-cut text) (ranged_by text (duration_at false text))

pub iso_duration_ok : (text : List ℕ) (amounts : ℕ × ℕ) → duration_at true text ≡ Ok amounts → iso_duration text ≡ ranged amounts
iso_duration_ok text amounts is = sym (iso_duration-cut text) ∙ rw is refl

pub iso_duration_err : (text : List ℕ) (left : ℕ) → duration_at true text ≡ Err left → iso_duration text ≡ Err (BadDuration (length text - left))
iso_duration_err text left is = sym (iso_duration-cut text) ∙ rw is refl

counted-cut : (count months nanos : ℕ) → counted count (kept true months, kept true nanos) ≡ counted count (months, nanos)
counted-cut count months nanos = rw (ranged-low months nanos) refl

repeated_by : (none : Bool) (text : List ℕ) (count : ℕ) (amounts : Result (ℕ × ℕ) ℕ)
    → (if none then Err ZeroRepeats else (placed text (cut_amounts amounts) >>= λ x. counted count x)) ≡ (if none then Err ZeroRepeats else (placed text amounts >>= λ x. counted count x))
repeated_by true text count amounts = refl
repeated_by false text count (Ok x) = counted-cut count x.0 x.1
repeated_by false text count (Err left) = refl

repeated-cut : (text : List ℕ) (count : ℕ) (behind : List ℕ)
    → (if count == 0 then Err ZeroRepeats else (placed text (duration_at true behind) >>= λ x. counted count x)) ≡ repeated text (count, behind)
repeated-cut text count behind = rw (duration-cut behind) (repeated_by (count == 0) text count (duration_at false behind))

pub repeated_ok : (text : List ℕ) (count : ℕ) (behind : List ℕ) (amounts : ℕ × ℕ) → duration_at true behind ≡ Ok amounts → (count == 0) ≡ false → repeated text (count, behind) ≡ counted count amounts
repeated_ok text count behind amounts is some = sym (repeated-cut text count behind) ∙ rw (is, some) refl

pub repeated_err : (text : List ℕ) (count : ℕ) (behind : List ℕ) (left : ℕ) → duration_at true behind ≡ Err left → (count == 0) ≡ false → repeated text (count, behind) ≡ Err (BadDuration (length text - left))
repeated_err text count behind left is some = sym (repeated-cut text count behind) ∙ rw (is, some) refl

-- a count that is cut is above the range, as the exact one is
counted-count : (count : ℕ) (amounts : ℕ × ℕ) → counted (kept true count) amounts ≡ counted count amounts
counted-count count amounts = elim (cases_lt 4294967295 count) [
  | inl many ↦
      let there : nat_lt 4294967295 count ≡ true = lt-ltb 4294967295 count many in
      let here : nat_lt 4294967295 (kept true count) ≡ true = above-cut 4294967295 count (omega arith) ∙ there in
      rw (here, there) refl
  | inr few ↦ ap (λ (n : ℕ). counted n amounts) (kept-low count (omega arith))
]

zero-cut : (count : ℕ) → (kept true count == 0) ≡ (count == 0)
zero-cut count = elim (cases_lt count 18446744073709551615) [
  | inl low ↦ ap (λ (n : ℕ). n == 0) (kept-low count (omega arith))
  | inr high ↦ ap (λ (n : ℕ). n == 0) (kept-high count high) ∙ sym (ne_eqb count 0 (λ none. omega arith))
]

count_by : (none : Bool) (text : List ℕ) (count : ℕ) (amounts : Result (ℕ × ℕ) ℕ)
    → (if none then Err ZeroRepeats else (placed text amounts >>= λ x. counted (kept true count) x)) ≡ (if none then Err ZeroRepeats else (placed text amounts >>= λ x. counted count x))
count_by true text count amounts = refl
count_by false text count (Ok x) = counted-count count x
count_by false text count (Err left) = refl

repeated-count : (text : List ℕ) (count : ℕ) (behind : List ℕ) → repeated text (kept true count, behind) ≡ repeated text (count, behind)
repeated-count text count behind = rw (zero-cut count) (count_by (count == 0) text count (duration_at false behind))

counts_by : (there : Bool) (n left : ℕ) (behind : List ℕ) → (if there then Ok (kept true n, behind) else Err left) ≡ cut_number (if there then Ok (n, behind) else Err left)
counts_by true n left behind = refl
counts_by false n left behind = refl

count-cut : (text : List ℕ) → count_at true text ≡ cut_number (count_at false text)
count-cut text = rw (whole-cut text) (counts_by (begins_with_digit text && begins_with 47 (behind_digits text)) (number_from false 0 text) _ _)

period_by : (text : List ℕ) (count : Result (ℕ × List ℕ) ℕ) → (placed text (cut_number count) >>= λ x. repeated text x) ≡ (placed text count >>= λ x. repeated text x)
period_by text (Ok x) = repeated-count text x.0 x.1
period_by text (Err left) = refl

iso_period-cut : (bs : List ℕ) → (placed (82 ∷ bs) (count_at true bs) >>= λ x. repeated (82 ∷ bs) x) ≡ iso_period (82 ∷ bs)
unfolding iso_period
iso_period-cut bs = rw (count-cut bs) (period_by (82 ∷ bs) (count_at false bs))

pub iso_period_ok : (bs : List ℕ) (count : ℕ × List ℕ) → count_at true bs ≡ Ok count → iso_period (82 ∷ bs) ≡ repeated (82 ∷ bs) count
iso_period_ok bs count is = sym (iso_period-cut bs) ∙ rw is refl

pub iso_period_behind : (text : List ℕ) (count : ℕ × List ℕ) → begins_with 82 text ≡ true → count_at true (take (length text - 1) (drop 1 text)) ≡ Ok count → iso_period text ≡ repeated text count
iso_period_behind [] count begins is = absurd (false≢true begins)
iso_period_behind (b ∷ bs) count begins is =
    let same = eqb-true b 82 begins in
    let one_less : length (b ∷ bs) - 1 ≡ length bs = omega arith in
    let all : take (length (b ∷ bs) - 1) bs ≡ bs = ap (λ (n : ℕ). take n bs) one_less ∙ take_all (length bs) bs (omega arith) in
    rw same (iso_period_ok bs count (ap (count_at true) (sym all) ∙ is))

pub iso_period_err : (bs : List ℕ) (left : ℕ) → count_at true bs ≡ Err left → iso_period (82 ∷ bs) ≡ Err (BadDuration (length (82 ∷ bs) - left))
iso_period_err bs left is = sym (iso_period-cut bs) ∙ rw is refl
