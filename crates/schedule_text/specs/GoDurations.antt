-- Durations as Go writes them (package time, ParseDuration), with at most nine digits behind a point and without
-- fractions of a nanosecond.
use Rattle.std.specs.Prelude.{ℕ, zero, suc, ◌+◌, ◌-◌, ◌*◌, ◌/◌, Bool, false, not, ◌&&◌, ◌||◌, ◌==◌, nat_le, if◌then◌else◌, List, [], ◌∷◌, length, Result, Ok, Err}
use Rattle.schedule_text.specs.declared.error.ScheduleError.{ScheduleError}
use Rattle.schedule_text.specs.declared.error.ScheduleError.TheVariants.{BadDuration, Negative, OutOfRange}
use Rattle.schedule_text.specs.Numbers.{kept, begins_with_digit, number_from, behind_digits, billionths_from, behind_billionths, first_weight, billionth}
use Rattle.schedule_text.specs.Reading.{◌>>=◌}

-- 2^63 - 1, the most nanoseconds of a duration
abbrev pub most_nanos : ℕ
most_nanos = 9223372036854775807

-- an `s`, which ends a unit of that many nanoseconds
abbrev pub unit_with_s : ℕ → List ℕ → Result (ℕ × List ℕ) ℕ
unit_with_s nanos [] = Err 0
unit_with_s nanos (b ∷ bs) = if b == 115 then Ok (nanos, bs) else Err (length (b ∷ bs))

-- minutes, or milliseconds if an `s` follows
abbrev pub unit_behind_m : List ℕ → Result (ℕ × List ℕ) ℕ
unit_behind_m [] = Ok (60000000000, [])
unit_behind_m (b ∷ bs) = if b == 115 then Ok (1000000, bs) else Ok (60000000000, b ∷ bs)

-- the second byte of a letter mu, and then an `s`
abbrev pub unit_behind_mu : ℕ → List ℕ → Result (ℕ × List ℕ) ℕ
unit_behind_mu second [] = Err 0
unit_behind_mu second (b ∷ bs) = if b == second then unit_with_s 1000 bs else Err (length (b ∷ bs))

-- a unit in nanoseconds: `h`, `m`, `s`, `ms`, `us`, `ns`, or `us` with U+00B5 or U+03BC for its `u`
abbrev pub unit_at : List ℕ → Result (ℕ × List ℕ) ℕ
unit_at [] = Err 0
unit_at (b ∷ bs) =
    if b == 104 then Ok (3600000000000, bs) else (
    if b == 109 then unit_behind_m bs else (
    if b == 115 then Ok (1000000000, bs) else (
    if b == 110 then unit_with_s 1 bs else (
    if b == 117 then unit_with_s 1000 bs else (
    if b == 194 then unit_behind_mu 181 bs else (
    if b == 206 then unit_behind_mu 188 bs else
    Err (length (b ∷ bs))))))))

-- whether a text begins with a point
abbrev pub begins_with_point : List ℕ → Bool
begins_with_point [] = false
begins_with_point (b ∷ bs) = b == 46

abbrev pub behind_first : List ℕ → List ℕ
behind_first [] = []
behind_first (b ∷ bs) = bs

-- the digits behind a point; there is at least one, unless there are digits before the point
abbrev pub fraction_at : Bool → ℕ → List ℕ → Result ((ℕ × ℕ) × List ℕ) ℕ
fraction_at before whole text =
    if before || begins_with_digit text
    then Ok ((whole, billionths_from first_weight 0 text), behind_billionths first_weight text)
    else Err (length text)

-- a literal: its whole part and its billionths
abbrev pub literal_at : Bool → List ℕ → Result ((ℕ × ℕ) × List ℕ) ℕ
literal_at cut text =
    if begins_with_point (behind_digits text)
    then fraction_at (begins_with_digit text) (number_from cut 0 text) (behind_first (behind_digits text))
    else (if begins_with_digit text then Ok ((number_from cut 0 text, 0), behind_digits text) else Err (length text))

-- a literal times its unit, cut down to whole nanoseconds
abbrev pub term_nanos : Bool → ℕ × ℕ → ℕ → ℕ
term_nanos cut literal unit = kept cut (kept cut (literal.0 * unit) + literal.1 * unit / billionth)

-- a literal and its unit
unfoldable pub term_at : Bool → List ℕ → Result (ℕ × List ℕ) ℕ
term_at cut text =
    literal_at cut text >>= λ literal.
    unit_at literal.1 >>= λ unit.
    Ok (term_nanos cut literal.0 unit.0, unit.1)

-- The sum of the terms up to the text's end. A term has at least one byte, so there are no more terms than bytes.
unfoldable pub terms_from : Bool → ℕ → ℕ → List ℕ → Result ℕ ℕ
terms_from cut most sum [] = Ok sum
terms_from cut zero sum (b ∷ bs) = Err (length (b ∷ bs))
terms_from cut (suc most) sum (b ∷ bs) = term_at cut (b ∷ bs) >>= λ term. terms_from cut most (kept cut (sum + term.0)) term.1

-- `0` alone
abbrev pub is_zero_alone : List ℕ → Bool
is_zero_alone [] = false
is_zero_alone (b ∷ bs) = (b == 48) && (length bs == 0)

-- `0` alone, or at least one term
abbrev pub sum_at : Bool → List ℕ → Result ℕ ℕ
sum_at cut text = if is_zero_alone text then Ok 0 else (if length text == 0 then Err 0 else terms_from cut (length text) 0 text)

-- what is behind the sign, if there is one
abbrev pub behind_sign : List ℕ → List ℕ
behind_sign [] = []
behind_sign (b ∷ bs) = if (b == 43) || (b == 45) then bs else b ∷ bs

abbrev pub is_negative : List ℕ → Bool
is_negative [] = false
is_negative (b ∷ bs) = b == 45

-- a fault with the number of bytes left, as a fault with its place in the text
abbrev pub placed : {A : Type 0} → List ℕ → Result A ℕ → Result A ScheduleError
placed text (Ok x) = Ok x
placed text (Err left) = Err (BadDuration (length text - left))

-- the sum, if its sign and its range are allowed
abbrev pub signed_sum : Bool → ℕ → Result ℕ ScheduleError
signed_sum negative sum =
    if negative && not (sum == 0) then Err Negative else (
    if nat_le sum most_nanos then Ok sum else Err OutOfRange)

-- the nanoseconds of a duration
unfoldable pub go_nanos : List ℕ → Result ℕ ScheduleError
go_nanos text = placed text (sum_at false (behind_sign text)) >>= λ sum. signed_sum (is_negative text) sum
