-- Worked examples of the definitions.
use Rattle.std.proofs.Common.{◌≡◌, Some, None, refl}
use Rattle.std.specs.Prelude.{codes}
use Rattle.lists_and_limits.specs.Decimals.{number_of}
use Rattle.lists_and_limits.specs.Limits.{last_number}

number_at_its_bound : number_of 1024 (codes "1024") ≡ Some 1024
number_at_its_bound = refl

number_with_a_leading_zero : number_of 1024 (codes "07") ≡ None
number_with_a_leading_zero = refl

last_number_in_digits : number_of last_number (codes "4611686018427387904") ≡ Some last_number
last_number_in_digits = refl
