-- What is found or put behind elements whose keys are before it.
use Rattle.std.proofs.Common.{◌≡◌, false, true, List, [], ◌∷◌, ◌++◌, Some, None, refl, ap, ◌∙◌}
use Rattle.std.specs.List.{AllByRecursion}
use Rattle.std.specs.declared.cmp.Ordering.{Ordering}
use Rattle.std.specs.declared.cmp.Ordering.TheVariants.{Less, Equal}
use Rattle.std.specs.Ordering.{is_eq}
use Rattle.lists_and_limits.specs.Lists.{found, with_put}
use Rattle.lists_and_limits.specs.Orders.{AscendBy}
use Rattle.lists_and_limits.proofs.Each.{each_at}

module _ {E K : Type 0} (key : E → K) (cmp : K → K → Ordering) where
  abbrev at : K → E → Ordering
  at k x = cmp (key x) k

  abbrev order : E → E → Ordering
  order a b = cmp (key a) (key b)

  -- the key of each of the list is before this one
  abbrev pub AreBefore : K → List E → Type 0
  AreBefore k xs = AllByRecursion (λ x. cmp (key x) k ≡ Less) xs

  pub before_of : (xs : List E) (y : E) (ys : List E) → AscendBy key cmp (xs ++ y ∷ ys) → AreBefore (key y) xs
  before_of [] y ys a = tt
  before_of (x ∷ xs) y ys a = (each_at (λ z. order x z ≡ Less) xs y ys a.0, before_of xs y ys a.1)

  pub found-before : (k : K) (xs ys : List E) → AreBefore k xs → found (at k) (xs ++ ys) ≡ found (at k) ys
  found-before k [] ys b = refl
  found-before k (x ∷ xs) ys b = let other : is_eq (at k x) ≡ false = ap is_eq b.0 in rw other (found-before k xs ys b.1)

  pub none_before : (k : K) (xs : List E) → AreBefore k xs → found (at k) xs ≡ None
  none_before k [] b = refl
  none_before k (x ∷ xs) b = let other : is_eq (at k x) ≡ false = ap is_eq b.0 in rw other (none_before k xs b.1)

  pub found-at : (k : K) (d : E) (xs ys : List E) → AreBefore k xs → cmp (key d) k ≡ Equal → found (at k) (xs ++ d ∷ ys) ≡ Some d
  found-at k d xs ys b t =
      let here : is_eq (at k d) ≡ true = ap is_eq t in
      found-before k xs (d ∷ ys) b ∙ rw here refl

  pub put-before : (e : E) (xs ys : List E) → AreBefore (key e) xs → with_put order e (xs ++ ys) ≡ xs ++ with_put order e ys
  put-before e [] ys b = refl
  put-before e (x ∷ xs) ys b = rw b.0 (ap (λ zs. x ∷ zs) (put-before e xs ys b.1))

  pub put-last : (e : E) (xs : List E) → AreBefore (key e) xs → with_put order e xs ≡ xs ++ e ∷ []
  put-last e [] b = refl
  put-last e (x ∷ xs) b = rw b.0 (ap (λ zs. x ∷ zs) (put-last e xs b.1))

  -- an element of the same key as the first of the rest takes its place
  pub put-at : (e d : E) (xs ys : List E) → AreBefore (key e) xs → order d e ≡ Equal → with_put order e (xs ++ d ∷ ys) ≡ xs ++ e ∷ ys
  put-at e d xs ys b t = put-before e xs (d ∷ ys) b ∙ rw t refl
