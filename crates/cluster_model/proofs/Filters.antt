-- The elements that pass a test: where they are, and what a change of one does to them.
use Rattle.std.proofs.Common.{◌≡◌, ℕ, Bool, true, false, List, [], ◌∷◌, set, Some, refl, sym, ap, ◌∙◌, subst, inl, inr}
use Rattle.std.specs.Prelude.{zero, suc, slice_get, filter, if◌then◌else◌}
use Rattle.turn_core.specs.CellSound.{In}

module _ {A : Type 0} (f : A → Bool) where
  filter_yes : (x : A) (xs : List A) → f x ≡ true → filter f (x ∷ xs) ≡ x ∷ filter f xs
  filter_yes x xs e = rw e refl

  pub In-filter : (xs : List A) (x : A) → In x (filter f xs) → In x xs × (f x ≡ true)
  In-filter [] x i = absurd i
  In-filter (y ∷ xs) x i = go (In-filter xs x) (f y) refl i
    where
      go : (In x (filter f xs) → In x xs × (f x ≡ true)) → (b : Bool) → f y ≡ b → In x (if b then y ∷ filter f xs else filter f xs) → In x (y ∷ xs) × (f x ≡ true)
      go later true e (inl s) = (inl s, ap f s ∙ e)
      go later true e (inr j) = (let h = later j in (inr h.0, h.1))
      go later false e j = (let h = later j in (inr h.0, h.1))

  pub In-passes : (xs : List A) (x : A) → In x xs → f x ≡ true → In x (filter f xs)
  In-passes [] x i e = absurd i
  In-passes (y ∷ xs) x (inl s) e = subst (In x) (sym (filter_yes y xs (sym (ap f s) ∙ e))) (inl s)
  In-passes (y ∷ xs) x (inr i) e = go (f y) (In-passes xs x i e)
    where
      go : (b : Bool) → In x (filter f xs) → In x (if b then y ∷ filter f xs else filter f xs)
      go true j = inr j
      go false j = j

  -- an element that passes, in place of one that passes
  pub filter-set : (xs : List A) (n : ℕ) (x y : A) → slice_get xs n ≡ Some x → f x ≡ true → f y ≡ true →
      (k : ℕ) × (slice_get (filter f xs) k ≡ Some x) × (filter f (set xs n y) ≡ set (filter f xs) k y)
  filter-set [] n x y at e g = absurd (cc)
  filter-set (z ∷ xs) zero x y at e g =
      let same : z ≡ x = cc in
      let yes : f z ≡ true = ap f same ∙ e in
      (0, rw yes (ap Some same), rw (g, yes) refl)
  filter-set (z ∷ xs) (suc n) x y at e g = go (f z) (filter-set xs n x y at e g)
    where
      go : (b : Bool) → (k : ℕ) × (slice_get (filter f xs) k ≡ Some x) × (filter f (set xs n y) ≡ set (filter f xs) k y) →
          (k : ℕ) × (slice_get (if b then z ∷ filter f xs else filter f xs) k ≡ Some x) × ((if b then z ∷ filter f (set xs n y) else filter f (set xs n y)) ≡ set (if b then z ∷ filter f xs else filter f xs) k y)
      go true h = (suc h.0, h.1, ap (λ (l : List A). z ∷ l) h.2)
      go false h = h

  -- an element that doesn't, in place of one that doesn't
  pub filter-set_other : (xs : List A) (n : ℕ) (x y : A) → slice_get xs n ≡ Some x → f x ≡ false → f y ≡ false → filter f (set xs n y) ≡ filter f xs
  filter-set_other [] n x y at e g = absurd (cc)
  filter-set_other (z ∷ xs) zero x y at e g =
      let same : z ≡ x = cc in
      let no : f z ≡ false = ap f same ∙ e in
      rw (g, no) refl
  filter-set_other (z ∷ xs) (suc n) x y at e g = ap (λ (l : List A). if f z then z ∷ l else l) (filter-set_other xs n x y at e g)
