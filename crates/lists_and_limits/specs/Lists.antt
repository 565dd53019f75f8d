-- What is found among elements in order, and what each change leaves. Own.
use Rattle.std.specs.Prelude.{◌≡◌, ◌⊎◌, ℕ, suc, not, if◌then◌else◌, List, [], ◌∷◌, ◌++◌, filter, Option, None, Some}
use Rattle.std.specs.declared.cmp.Ordering.{Ordering}
use Rattle.std.specs.declared.cmp.Ordering.TheVariants.{Less, Equal, Greater}
use Rattle.std.specs.Ordering.{is_eq, is_gt}

module _ {E : Type 0} where
  -- one of the elements
  abbrev pub In : E → List E → Type 0
  In x [] = ⊥
  In x (y ∷ ys) = (x ≡ y) ⊎ In x ys

  -- the first element that matches a probe
  abbrev pub found : (E → Ordering) → List E → Option E
  found at [] = None
  found at (x ∷ xs) = if is_eq (at x) then Some x else found at xs

  -- the first element after what a probe looks for
  abbrev pub first_behind : (E → Ordering) → List E → Option E
  first_behind at [] = None
  first_behind at (x ∷ xs) = if is_gt (at x) then Some x else first_behind at xs

  -- how many elements match
  abbrev pub count_at : (E → Ordering) → List E → ℕ
  count_at at [] = 0
  count_at at (x ∷ xs) = if is_eq (at x) then suc (count_at at xs) else count_at at xs

  -- without the first match
  abbrev pub without : (E → Ordering) → List E → List E
  without at [] = []
  without at (x ∷ xs) = if is_eq (at x) then xs else x ∷ without at xs

  -- without any match
  abbrev pub without_all : (E → Ordering) → List E → List E
  without_all at xs = filter (λ x. not (is_eq (at x))) xs

  -- with the first match changed
  abbrev pub with_changed : (E → Ordering) → (E → E) → List E → List E
  with_changed at f [] = []
  with_changed at f (x ∷ xs) = if is_eq (at x) then f x ∷ xs else x ∷ with_changed at f xs

  abbrev pub put_by : Ordering → E → E → List E → List E → List E
  put_by Less e x xs later = x ∷ later
  put_by Equal e x xs later = e ∷ xs
  put_by Greater e x xs later = e ∷ x ∷ xs

  -- with an element in its place in the order, which replaces an equal one
  abbrev pub with_put : (E → E → Ordering) → E → List E → List E
  with_put cmp e [] = e ∷ []
  with_put cmp e (x ∷ xs) = put_by (cmp x e) e x xs (with_put cmp e xs)

  -- on which side of an element the first one is
  abbrev pub IsFirstSide : (List E → Option E) → List E → E → List E → Ordering → Type 0
  IsFirstSide first l x r Less = first (l ++ x ∷ r) ≡ first l
  IsFirstSide first l x r Equal = first (l ++ x ∷ r) ≡ Some x
  IsFirstSide first l x r Greater = first (l ++ x ∷ r) ≡ first r
