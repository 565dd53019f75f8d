-- What a probe finds after a change of a list.
use Rattle.std.proofs.Common.{◌≡◌, Bool, true, false, List, [], ◌∷◌, ◌++◌, map, filter, Some, None, refl, ◌∙◌}
use Rattle.std.specs.Prelude.{option_map}
use Rattle.std.specs.declared.cmp.Ordering.{Ordering}
use Rattle.std.specs.Ordering.{is_eq}
use Rattle.lists_and_limits.specs.Lists.{found, with_changed}

module _ {E : Type 0} (at : E → Ordering) where
  -- none is found among fewer
  pub filter-none : (test : E → Bool) (xs : List E) → found at xs ≡ None → found at (filter test xs) ≡ None
  filter-none test [] h = refl
  filter-none test (x ∷ xs) h = go (is_eq (at x)) (test x) refl refl (filter-none test xs)
    where
      go : (here kept : Bool) → is_eq (at x) ≡ here → test x ≡ kept → (found at xs ≡ None → found at (filter test xs) ≡ None) → found at (filter test (x ∷ xs)) ≡ None
      go true kept e f ih = absurd (let k : Some x ≡ None = rw e at h in cc)
      go false true e f ih = rw (f, e) (ih (rw e at h))
      go false false e f ih = rw f (ih (rw e at h))

  -- a change of each element that keeps its place
  pub found-map : (g : E → E) (xs : List E) → ((x : E) → is_eq (at (g x)) ≡ is_eq (at x)) → found at (map g xs) ≡ option_map g (found at xs)
  found-map g [] same = refl
  found-map g (x ∷ xs) same = go (is_eq (at x)) refl (found-map g xs same)
    where
      go : (here : Bool) → is_eq (at x) ≡ here → found at (map g xs) ≡ option_map g (found at xs) → found at (map g (x ∷ xs)) ≡ option_map g (found at (x ∷ xs))
      go true e ih = let f : is_eq (at (g x)) ≡ true = same x ∙ e in rw (f, e) refl
      go false e ih = let f : is_eq (at (g x)) ≡ false = same x ∙ e in rw (f, e) ih

  -- a change of the one that is found
  pub found-changed : (f : E → E) (xs : List E) → ((x : E) → is_eq (at (f x)) ≡ is_eq (at x)) → found at (with_changed at f xs) ≡ option_map f (found at xs)
  found-changed f [] same = refl
  found-changed f (x ∷ xs) same = go (is_eq (at x)) refl (found-changed f xs same)
    where
      go : (here : Bool) → is_eq (at x) ≡ here → found at (with_changed at f xs) ≡ option_map f (found at xs) → found at (with_changed at f (x ∷ xs)) ≡ option_map f (found at (x ∷ xs))
      go true e ih = let k : is_eq (at (f x)) ≡ true = same x ∙ e in rw (e, k) refl
      go false e ih = rw (e, e) ih

  -- a change of another one
  pub found-changed_other : (its : E → Ordering) (f : E → E) (xs : List E) → ((x : E) → is_eq (at (f x)) ≡ is_eq (at x)) → ((x : E) → is_eq (its x) ≡ true → is_eq (at x) ≡ false) → found at (with_changed its f xs) ≡ found at xs
  found-changed_other its f [] same apart = refl
  found-changed_other its f (x ∷ xs) same apart = go (is_eq (its x)) refl (found-changed_other its f xs same apart)
    where
      go : (here : Bool) → is_eq (its x) ≡ here → found at (with_changed its f xs) ≡ found at xs → found at (with_changed its f (x ∷ xs)) ≡ found at (x ∷ xs)
      go true e ih =
          let k : is_eq (at x) ≡ false = apart x e in
          let l : is_eq (at (f x)) ≡ false = same x ∙ k in
          rw (e, l, k) refl
      go false e ih = rw (e, ih) refl

  -- one more at the end
  pub found-last_other : (e : E) (xs : List E) → is_eq (at e) ≡ false → found at (xs ++ e ∷ []) ≡ found at xs
  found-last_other e [] apart = rw apart refl
  found-last_other e (x ∷ xs) apart = rw (found-last_other e xs apart) refl

  pub found-last : (e : E) (xs : List E) → found at xs ≡ None → is_eq (at e) ≡ true → found at (xs ++ e ∷ []) ≡ Some e
  found-last e [] none is = rw is refl
  found-last e (x ∷ xs) none is = go (is_eq (at x)) refl (found-last e xs)
    where
      go : (here : Bool) → is_eq (at x) ≡ here → (found at xs ≡ None → is_eq (at e) ≡ true → found at (xs ++ e ∷ []) ≡ Some e) → found at ((x ∷ xs) ++ e ∷ []) ≡ Some e
      go true f ih = absurd (let k : Some x ≡ None = rw f at none in cc)
      go false f ih = rw f (ih (rw f at none) is)
