-- Numbers that are pieces of a text, and the place of the first byte that isn't allowed in them. Own.
use Rattle.std.specs.Prelude.{ℕ, ◌==◌, nat_le, if◌then◌else◌, List, [], ◌∷◌, length, Option, Some, None, take_while}
use Rattle.actor_names.specs.declared.error.NameError.{NameError}
use Rattle.actor_names.specs.declared.error.NameError.TheVariants.{BadByte}
use Rattle.actor_names.specs.Names.{node_fault, before_slash, after_slash, second_fault, first_of_two, spaced_fault}
use Rattle.lists_and_limits.specs.Decimals.{is_digit, number_of}
use Rattle.lists_and_limits.specs.Limits.{last_number}

-- the digits of the number at the head of a text: a `0` alone, or all the digits up to the first other byte
abbrev pub numeral_of : List ℕ → List ℕ
numeral_of [] = []
numeral_of (b ∷ bs) = if b == 48 then b ∷ [] else take_while is_digit (b ∷ bs)

-- a missing number and one out of range are faults at the number's first place
abbrev pub ended_fault : ℕ → ℕ → ℕ → Option ℕ → Option NameError
ended_fault low end n None = Some (BadByte 0)
ended_fault low end n (Some number) = if nat_le low number then (if end == n then None else Some (BadByte end)) else Some (BadByte 0)

-- the first fault of a text that should be a number from `low` to `most`
abbrev pub number_fault : ℕ → ℕ → List ℕ → Option NameError
number_fault low most text = ended_fault low (length (numeral_of text)) (length text) (number_of most (numeral_of text))

-- a boot is a number from 1 to 2^62
abbrev pub boot_fault : List ℕ → Option NameError
boot_fault text = number_fault 1 last_number text

-- the first fault of `NODE/BOOT`, node before boot
abbrev pub local_member_fault : List ℕ → Option NameError
local_member_fault text = first_of_two (node_fault (before_slash text)) (second_fault boot_fault text (after_slash text))

-- `NODE/BOOT` or `SPACE:NODE/BOOT`
abbrev pub member_fault : List ℕ → Option NameError
member_fault text = spaced_fault local_member_fault text
