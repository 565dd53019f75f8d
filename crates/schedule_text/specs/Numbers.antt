-- Numbers in texts: digits, which may have leading zeros. Own.
use Rattle.std.specs.Prelude.{ℕ, ◌+◌, ◌-◌, ◌*◌, ◌/◌, Bool, true, false, not, ◌&&◌, ◌==◌, nat_le, min, if◌then◌else◌, List, [], ◌∷◌}

-- A number as it is; or, if it is cut, as the code keeps it: one above 2^64 - 1 counts as 2^64 - 1, which is past
-- each range that a schedule has. What a text means is said of numbers as they are.
abbrev pub kept : Bool → ℕ → ℕ
kept false n = n
kept true n = min n 18446744073709551615

-- `0` to `9`
abbrev pub is_digit : ℕ → Bool
is_digit b = nat_le 48 b && nat_le b 57

abbrev pub begins_with_digit : List ℕ → Bool
begins_with_digit [] = false
begins_with_digit (b ∷ bs) = is_digit b

-- the number with one more digit
abbrev pub with_digit : Bool → ℕ → ℕ → ℕ
with_digit cut n b = kept cut (n * 10 + (b - 48))

-- the number that the digits of n and then those at the start of a text spell
abbrev pub number_from : Bool → ℕ → List ℕ → ℕ
number_from cut n [] = n
number_from cut n (b ∷ bs) = if is_digit b then number_from cut (with_digit cut n b) bs else n

-- what is behind the digits at the start of a text
abbrev pub behind_digits : List ℕ → List ℕ
behind_digits [] = []
behind_digits (b ∷ bs) = if is_digit b then behind_digits bs else b ∷ bs

-- The digits behind a point, at most nine, in billionths: the next digit counts `weight` times its value.
abbrev pub billionths_from : ℕ → ℕ → List ℕ → ℕ
billionths_from weight n [] = n
billionths_from weight n (b ∷ bs) = if is_digit b && not (weight == 0) then billionths_from (weight / 10) (n + (b - 48) * weight) bs else n

-- what is behind those digits
abbrev pub behind_billionths : ℕ → List ℕ → List ℕ
behind_billionths weight [] = []
behind_billionths weight (b ∷ bs) = if is_digit b && not (weight == 0) then behind_billionths (weight / 10) bs else b ∷ bs

-- the weight of the first digit behind a point
abbrev pub first_weight : ℕ
first_weight = 100000000

abbrev pub billionth : ℕ
billionth = 1000000000
