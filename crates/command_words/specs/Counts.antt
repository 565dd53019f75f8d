-- Numbers in the words: decimal digits without a sign, where leading zeros are allowed. Own.
use Rattle.std.specs.Prelude.{◌≢◌, ℕ, nat_le, if◌then◌else◌, List, [], ◌∷◌, Option, None, Some, option_and_then}
use Rattle.lists_and_limits.specs.Decimals.{digits_number}

abbrev pub from_one : ℕ → Option ℕ
from_one n = if nat_le 1 n then Some n else None

-- the number from 1 to `most` that the digits denote
abbrev pub positive_up_to : ℕ → List ℕ → Option ℕ
positive_up_to most text = option_and_then from_one (digits_number most text)

-- the count from 1 to 1,000 that the digits denote
abbrev pub count_of : List ℕ → Option ℕ
count_of text = positive_up_to 1000 text

-- the number up to `most` that the digits denote; there must be at least one digit
abbrev pub number_up_to : ℕ → List ℕ → Option ℕ
number_up_to most [] = None
number_up_to most (b ∷ bs) = digits_number most (b ∷ bs)

-- the first byte isn't a zero
abbrev pub IsUnpadded : List ℕ → Type 0
IsUnpadded [] = Unit {0}
IsUnpadded (b ∷ bs) = b ≢ 48
