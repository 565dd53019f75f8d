-- How a probe compares with elements in order. Own.
use Rattle.std.specs.Prelude.{◌≡◌, ◌⊎◌, List, [], ◌∷◌}
use Rattle.std.specs.List.{AllByRecursion}
use Rattle.std.specs.declared.cmp.Ordering.{Ordering}
use Rattle.std.specs.declared.cmp.Ordering.TheVariants.{Less, Equal, Greater}

module _ {E : Type 0} (at : E → Ordering) where
  -- each of them is after what is looked for
  abbrev pub AreBehind : List E → Type 0
  AreBehind xs = AllByRecursion (λ x. at x ≡ Greater) xs

  -- none of them is before what is looked for
  abbrev pub NoneBefore : List E → Type 0
  NoneBefore xs = AllByRecursion (λ x. (at x ≡ Equal) ⊎ (at x ≡ Greater)) xs

  -- first those before what is looked for, then at most one that matches, then those after it
  abbrev pub IsCut : List E → Type 0
  IsCut [] = Unit {0}
  IsCut (x ∷ xs) = ((at x ≡ Less) ⊎ AreBehind xs) × IsCut xs

  -- the same, with any number of matches
  abbrev pub IsRun : List E → Type 0
  IsRun [] = Unit {0}
  IsRun (x ∷ xs) = ((at x ≡ Less) ⊎ (((at x ≡ Equal) × NoneBefore xs) ⊎ ((at x ≡ Greater) × AreBehind xs))) × IsRun xs
