-- Decimal numbers in texts: only digits, without a sign and without leading zeros. Own.
use Rattle.std.specs.Prelude.{ℕ, ◌+◌, ◌*◌, ◌-◌, Bool, false, not, ◌&&◌, ◌||◌, ◌==◌, nat_le, if◌then◌else◌, List, [], ◌∷◌, length, Option, Some, None, fold}
use Rattle.std.specs.List.{list_all}

-- from `low` to `high`, both included
abbrev pub is_between : ℕ → ℕ → ℕ → Bool
is_between low high b = nat_le low b && nat_le b high

-- `0` to `9`
abbrev pub is_digit : ℕ → Bool
is_digit b = is_between 48 57 b

-- the number that the digits stand for, the most significant one first
abbrev pub decimal_value : List ℕ → ℕ
decimal_value text = fold (λ n b. n * 10 + (b - 48)) 0 text

-- at least one byte, the first a `0` only if it is the whole text
abbrev pub is_unpadded : List ℕ → Bool
is_unpadded [] = false
is_unpadded (b ∷ bs) = not (b == 48) || (length bs == 0)

-- only digits, at least one, without leading zeros
abbrev pub is_decimal : List ℕ → Bool
is_decimal text = is_unpadded text && list_all is_digit text

-- the number that a decimal stands for, if it is at most `most`
abbrev pub number_of : ℕ → List ℕ → Option ℕ
number_of most text = if is_decimal text && nat_le (decimal_value text) most then Some (decimal_value text) else None

-- the same for digits that may have leading zeros
abbrev pub digits_number : ℕ → List ℕ → Option ℕ
digits_number most text = if list_all is_digit text && nat_le (decimal_value text) most then Some (decimal_value text) else None
