-- Walks over elements in order, one behind the other.
use Rattle.std.proofs.Common.{◌≡◌, inr, true, false, List, [], ◌∷◌, ◌++◌, Option, Some, None, refl, ap, ◌∙◌}
use Rattle.std.specs.declared.cmp.Ordering.{Ordering}
use Rattle.std.specs.declared.cmp.Ordering.TheVariants.{Less}
use Rattle.std.specs.Ordering.{is_gt, ordering_reverse}
use Rattle.std.specs.Cmp.{IsTotalOrder}
use Rattle.std.proofs.lemmas.Cmp.{tied_itself}
use Rattle.lists_and_limits.specs.Lists.{with_put}
use Rattle.lists_and_limits.specs.Orders.{IsBelow, Ascends, IsPlace}
use Rattle.lists_and_limits.specs.Cuts.{IsCut}
use Rattle.lists_and_limits.specs.Walks.{from_place, following, head_of, WalkLaw}
use Rattle.lists_and_limits.proofs.Each.{each_at}
use Rattle.lists_and_limits.proofs.Fronts as fronts
use Rattle.lists_and_limits.proofs.Orders.{cut, place_key}

module _ {E : Type 0} (cmp : E → E → Ordering) (total : IsTotalOrder cmp) where
  is_place : (p : Option E) → IsPlace cmp (from_place cmp p)
  is_place None a b h = inr refl
  is_place (Some e) a b h = place_key (λ x. x) cmp total e a b h

  pub cut_place : (p : Option E) (xs : List E) → Ascends cmp xs → IsCut (from_place cmp p) xs
  cut_place p xs a = cut (λ x. x) cmp (from_place cmp p) xs (is_place p) a

  pub begins : (xs : List E) → following cmp None xs ≡ head_of cmp xs
  begins [] = refl
  begins (x ∷ xs) = refl

  first_of_back : (e : E) (back : List E) → IsBelow cmp e back → following cmp (Some e) back ≡ head_of cmp back
  first_of_back e [] b = refl
  first_of_back e (y ∷ back) b =
      let after : is_gt (cmp y e) ≡ true = ap is_gt (total.antisymm y e ∙ ap ordering_reverse b.0) in
      rw after refl

  pub goes-on : (front : List E) (e : E) (back : List E) → Ascends cmp (front ++ e ∷ back) → following cmp (Some e) (front ++ e ∷ back) ≡ head_of cmp back
  goes-on [] e back a =
      let itself : is_gt (cmp e e) ≡ false = ap is_gt (tied_itself total e) in
      rw itself (first_of_back e back a.0)
  goes-on (x ∷ front) e back a =
      let before : is_gt (cmp x e) ≡ false = ap is_gt (each_at (λ y. cmp x y ≡ Less) front e back a.0) in
      rw before (goes-on front e back a.1)

  pub put-last : (front : List E) (e : E) (back : List E) → Ascends cmp (front ++ e ∷ back) → with_put cmp e front ≡ front ++ e ∷ []
  put-last front e back a = fronts.put-last (λ x. x) cmp e front (fronts.before_of (λ x. x) cmp front e back a)

  pub walks : WalkLaw cmp
  walks = record { begins = begins; goes_on = goes-on; put_last = put-last }
