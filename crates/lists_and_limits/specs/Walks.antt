-- What follows a place among elements in order. Own.
use Rattle.std.specs.Prelude.{◌≡◌, List, [], ◌∷◌, ◌++◌, Option, None, Some}
use Rattle.std.specs.declared.cmp.Ordering.{Ordering}
use Rattle.std.specs.declared.cmp.Ordering.TheVariants.{Greater}
use Rattle.lists_and_limits.specs.Lists.{first_behind, with_put}
use Rattle.lists_and_limits.specs.Orders.{Ascends}

module _ {E : Type 0} (cmp : E → E → Ordering) where
  -- how an element compares with a place in the order; without a place, each element is after it
  abbrev pub from_place : Option E → E → Ordering
  from_place None x = Greater
  from_place (Some p) x = cmp x p

  -- the first element after a place, or the first one of all
  abbrev pub following : Option E → List E → Option E
  following p xs = first_behind (from_place p) xs

  -- the first element of a list
  abbrev pub head_of : List E → Option E
  head_of [] = None
  head_of (x ∷ xs) = Some x

  -- A walk that begins without a place and goes on behind the element that it found gives each element once, in order;
  -- and putting them in this order makes the list anew.
  pub record WalkLaw : Type 0 where
    pub begins : (xs : List E) → following None xs ≡ head_of xs
    pub goes_on : (front : List E) (e : E) (back : List E) → Ascends cmp (front ++ e ∷ back) → following (Some e) (front ++ e ∷ back) ≡ head_of back
    pub put_last : (front : List E) (e : E) (back : List E) → Ascends cmp (front ++ e ∷ back) → with_put cmp e front ≡ front ++ e ∷ []
