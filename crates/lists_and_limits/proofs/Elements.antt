-- Elements of lists that were joined, changed or cut.
use Rattle.std.proofs.Common.{◌≡◌, ◌⊎◌, ℕ, zero, suc, List, [], ◌∷◌, ◌++◌, set, Some, refl, sym, ap, inl, inr}
use Rattle.std.specs.List.{slice_get}
use Rattle.lists_and_limits.specs.Lists.{In}

module _ {A : Type 0} where
  pub In-left : (xs ys : List A) (x : A) → In x xs → In x (xs ++ ys)
  In-left [] ys x h = absurd h
  In-left (y ∷ xs) ys x (inl e) = inl e
  In-left (y ∷ xs) ys x (inr i) = inr (In-left xs ys x i)

  pub In-right : (xs ys : List A) (x : A) → In x ys → In x (xs ++ ys)
  In-right [] ys x i = i
  In-right (y ∷ xs) ys x i = inr (In-right xs ys x i)

  pub In-append : (xs ys : List A) (x : A) → In x (xs ++ ys) → In x xs ⊎ In x ys
  In-append [] ys x h = inr h
  In-append (y ∷ xs) ys x (inl e) = inl (inl e)
  In-append (y ∷ xs) ys x (inr i) = elim (In-append xs ys x i) [ inl l ↦ inl (inr l) | inr r ↦ inr r ]

  pub In-middle : (xs : List A) (x : A) (ys : List A) → In x (xs ++ x ∷ ys)
  In-middle xs x ys = In-right xs (x ∷ ys) x (inl refl)

  pub In-last : (xs : List A) (x : A) → In x (xs ++ x ∷ [])
  In-last xs x = In-middle xs x []

  pub In-push : (xs : List A) (y x : A) → In x (xs ++ y ∷ []) → In x xs ⊎ (x ≡ y)
  In-push xs y x h = elim (In-append xs (y ∷ []) x h) [ inl i ↦ inl i | inr i ↦ elim i [ inl e ↦ inr e | inr none ↦ absurd none ] ]

  -- a list is cut at each of its elements
  pub In-cut : (xs : List A) (x : A) → In x xs → (l : List A) × (r : List A) × (xs ≡ l ++ x ∷ r)
  In-cut [] x i = absurd i
  In-cut (y ∷ xs) x (inl e) = ([], xs, ap (λ z. z ∷ xs) (sym e))
  In-cut (y ∷ xs) x (inr i) = let m = In-cut xs x i in (y ∷ m.0, m.1, ap (λ ys. y ∷ ys) m.2)

  pub In-set : (xs : List A) (n : ℕ) (x y : A) → In y (set xs n x) → (y ≡ x) ⊎ In y xs
  In-set [] n x y h = inr h
  In-set (z ∷ xs) zero x y (inl e) = inl e
  In-set (z ∷ xs) zero x y (inr i) = inr (inr i)
  In-set (z ∷ xs) (suc n) x y (inl e) = inr (inl e)
  In-set (z ∷ xs) (suc n) x y (inr i) = elim (In-set xs n x y i) [ inl l ↦ inl l | inr r ↦ inr (inr r) ]

  pub In-slice_get : (xs : List A) (n : ℕ) (x : A) → slice_get xs n ≡ Some x → In x xs
  In-slice_get [] n x e = absurd (cc)
  In-slice_get (y ∷ xs) zero x e = inl (cc)
  In-slice_get (y ∷ xs) (suc n) x e = inr (In-slice_get xs n x e)
