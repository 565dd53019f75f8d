-- Worked examples of the definitions, over numbers.
use Rattle.std.proofs.Common.{◌≡◌, ℕ, ◌+◌, ◌/◌, [], ◌∷◌, Some, None, refl}
use Rattle.std.specs.declared.cmp.Ordering.{Ordering}
use Rattle.std.specs.Ordering.{nat_cmp}
use Rattle.lists_and_limits.specs.Lists.{found, count_at, without, without_all, with_changed, with_put}

-- looks for the number 2
abbrev two : ℕ → Ordering
two x = nat_cmp x 2

-- looks for the numbers from 20 to 29
abbrev tens : ℕ → Ordering
tens x = nat_cmp (x / 10) 2

put_goes_to_its_place : with_put nat_cmp 2 (1 ∷ 3 ∷ []) ≡ 1 ∷ 2 ∷ 3 ∷ []
put_goes_to_its_place = refl

put_takes_the_stead : with_put nat_cmp 3 (1 ∷ 3 ∷ []) ≡ 1 ∷ 3 ∷ []
put_takes_the_stead = refl

one_is_found : found two (1 ∷ 2 ∷ 3 ∷ []) ≡ Some 2
one_is_found = refl

none_is_found : found two (1 ∷ 3 ∷ []) ≡ None
none_is_found = refl

one_is_gone : without two (1 ∷ 2 ∷ 3 ∷ []) ≡ 1 ∷ 3 ∷ []
one_is_gone = refl

one_is_changed : with_changed two (λ x. x + 5) (1 ∷ 2 ∷ 3 ∷ []) ≡ 1 ∷ 7 ∷ 3 ∷ []
one_is_changed = refl

run_is_counted : count_at tens (10 ∷ 20 ∷ 21 ∷ 30 ∷ []) ≡ 2
run_is_counted = refl

run_is_gone : without_all tens (10 ∷ 20 ∷ 21 ∷ 30 ∷ []) ≡ 10 ∷ 30 ∷ []
run_is_gone = refl
