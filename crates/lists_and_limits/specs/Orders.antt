-- Elements in order of a key, each key once, and what keeps them so. Own.
use Rattle.std.specs.Prelude.{◌≡◌, ◌⊎◌, List, [], ◌∷◌}
use Rattle.std.specs.List.{AllByRecursion}
use Rattle.std.specs.declared.cmp.Ordering.{Ordering}
use Rattle.std.specs.declared.cmp.Ordering.TheVariants.{Less, Greater}
use Rattle.lists_and_limits.specs.Cuts.{IsCut}
use Rattle.lists_and_limits.specs.Lists.{without, without_all, with_put}

module _ {E K : Type 0} (key : E → K) (cmp : K → K → Ordering) where
  -- the key is before that of each of the list
  abbrev pub IsBelowAll : K → List E → Type 0
  IsBelowAll k xs = AllByRecursion (λ x. cmp k (key x) ≡ Less) xs

  -- the key of each is before the keys of all those after it
  abbrev pub AscendBy : List E → Type 0
  AscendBy [] = Unit {0}
  AscendBy (x ∷ xs) = IsBelowAll (key x) xs × AscendBy xs

-- elements that are their own keys
module _ {E : Type 0} (cmp : E → E → Ordering) where
  abbrev pub IsBelow : E → List E → Type 0
  IsBelow e xs = IsBelowAll (λ x. x) cmp e xs

  abbrev pub Ascends : List E → Type 0
  Ascends xs = AscendBy (λ x. x) cmp xs

  -- of two elements in order, the first is before what is looked for or the second is after it
  abbrev pub IsPlace : (E → Ordering) → Type 0
  IsPlace at = (a b : E) → cmp a b ≡ Less → (at a ≡ Less) ⊎ (at b ≡ Greater)

  -- Elements in order are cut by anything that has a place in the order, and by an element; and they stay in order when
  -- one is put and when one or all matches are removed.
  pub record OrderLaw : Type 0 where
    pub cut : (at : E → Ordering) (xs : List E) → IsPlace at → Ascends xs → IsCut at xs
    pub cut_element : (e : E) (xs : List E) → Ascends xs → IsCut (λ x. cmp x e) xs
    pub put : (e : E) (xs : List E) → Ascends xs → Ascends (with_put cmp e xs)
    pub without_one : (at : E → Ordering) (xs : List E) → Ascends xs → Ascends (without at xs)
    pub without_any : (at : E → Ordering) (xs : List E) → Ascends xs → Ascends (without_all at xs)
