-- A text without a fault has a length in its range.
use Rattle.std.proofs.Common.{◌≡◌, ℕ, ◌<◌, ◌≤◌, ◌==◌, nat_lt, Bool, true, false, List, length, arith, Option, Some, None, option_map, if◌then◌else◌, refl}
use Rattle.std.proofs.lemmas.Bool.Decides.{nat_tests}
use Rattle.actor_names.specs.declared.error.NameError.TheVariants.{Empty, TooLong, BadByte}
use Rattle.actor_names.specs.Names.{first_bad, text_fault}

in_length : (most n : ℕ) (empty long : Bool) (found : Option ℕ) → (n == 0) ≡ empty → nat_lt most n ≡ long → (if empty then Some Empty else (if long then Some (TooLong n) else option_map (λ k. BadByte k) found)) ≡ None → (0 < n) × (n ≤ most)
in_length most n true long found is past none = cc
in_length most n false true found is past none = cc
in_length most n false false found is past none = (grind (arith, nat_tests), grind (arith, nat_tests))

pub length-text_fault : (ok : ℕ → Bool) (most : ℕ) (text : List ℕ) → text_fault ok most text ≡ None → (0 < length text) × (length text ≤ most)
length-text_fault ok most text none = in_length most (length text) (length text == 0) (nat_lt most (length text)) (first_bad ok text) refl refl none

pub most-text_fault : (ok : ℕ → Bool) (most : ℕ) (text : List ℕ) → text_fault ok most text ≡ None → length text ≤ most
most-text_fault ok most text none = (length-text_fault ok most text none).1
