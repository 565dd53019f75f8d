-- Elements that a probe cuts, split at one of them: what is looked for or changed is on one side of it.
use Rattle.std.proofs.Common.{◌≡◌, ◌⊎◌, inl, inr, Bool, true, false, if◌then◌else◌, List, [], ◌∷◌, ◌++◌, Option, Some, None, refl, ap}
use Rattle.std.specs.declared.cmp.Ordering.{Ordering}
use Rattle.std.specs.declared.cmp.Ordering.TheVariants.{Less, Equal, Greater}
use Rattle.std.specs.Ordering.{is_eq, is_gt}
use Rattle.lists_and_limits.specs.Cuts.{AreBehind, IsCut}
use Rattle.lists_and_limits.specs.Lists.{found, first_behind, without, with_changed, put_by, with_put}

pub less-greater : {o : Ordering} → o ≡ Less → o ≡ Greater → ⊥
less-greater l g = cc

pub equal-greater : {o : Ordering} → o ≡ Equal → o ≡ Greater → ⊥
equal-greater e g = cc

not_behind : (o : Ordering) → (o ≡ Greater → ⊥) → is_gt o ≡ false
not_behind Less n = refl
not_behind Equal n = refl
not_behind Greater n = absurd (n refl)

-- the first of two, or the second if there is no first
abbrev pub or_else : {E : Type 0} → Option E → Option E → Option E
or_else None b = b
or_else (Some a) b = Some a

module _ {E : Type 0} (at : E → Ordering) where
  pub behind_front : (l m : List E) → AreBehind at (l ++ m) → AreBehind at l
  behind_front [] m b = tt
  behind_front (x ∷ l) m b = (b.0, behind_front l m b.1)

  pub behind_middle : (l : List E) (x : E) (r : List E) → AreBehind at (l ++ x ∷ r) → at x ≡ Greater
  behind_middle [] x r b = b.0
  behind_middle (y ∷ l) x r b = behind_middle l x r b.1

  -- ---- the parts of a cut list

  front_side : (x : E) (l m : List E) → (at x ≡ Less) ⊎ AreBehind at (l ++ m) → (at x ≡ Less) ⊎ AreBehind at l
  front_side x l m (inl e) = inl e
  front_side x l m (inr b) = inr (behind_front l m b)

  pub cut_front : (l m : List E) → IsCut at (l ++ m) → IsCut at l
  cut_front [] m c = tt
  cut_front (x ∷ l) m c = (front_side x l m c.0, cut_front l m c.1)

  pub cut_back : (l m : List E) → IsCut at (l ++ m) → IsCut at m
  cut_back [] m c = c
  cut_back (x ∷ l) m c = cut_back l m c.1

  pub cut_behind : (l : List E) (x : E) (r : List E) → IsCut at (l ++ x ∷ r) → IsCut at r
  cut_behind l x r c = let m = cut_back l (x ∷ r) c in m.1

  -- an element before one that is not after what is looked for is before what is looked for
  before : (y : E) (l : List E) (x : E) (r : List E) → (at y ≡ Less) ⊎ AreBehind at (l ++ x ∷ r) → (at x ≡ Greater → ⊥) → at y ≡ Less
  before y l x r (inl e) n = e
  before y l x r (inr b) n = absurd (n (behind_middle l x r b))

  rest_behind : (x : E) (r : List E) → (at x ≡ Less) ⊎ AreBehind at r → at x ≡ Greater → AreBehind at r
  rest_behind x r (inl e) g = absurd (less-greater e g)
  rest_behind x r (inr b) g = b

  -- ---- those that are behind

  found_behind : (xs : List E) → AreBehind at xs → found at xs ≡ None
  found_behind [] b = refl
  found_behind (x ∷ xs) b = let other : is_eq (at x) ≡ false = ap is_eq b.0 in rw other (found_behind xs b.1)

  without_behind : (xs : List E) → AreBehind at xs → without at xs ≡ xs
  without_behind [] b = refl
  without_behind (x ∷ xs) b = let other : is_eq (at x) ≡ false = ap is_eq b.0 in rw other (ap (λ ys. x ∷ ys) (without_behind xs b.1))

  changed_behind : (f : E → E) (xs : List E) → AreBehind at xs → with_changed at f xs ≡ xs
  changed_behind f [] b = refl
  changed_behind f (x ∷ xs) b = let other : is_eq (at x) ≡ false = ap is_eq b.0 in rw other (ap (λ ys. x ∷ ys) (changed_behind f xs b.1))

  module _ (x : E) (r : List E) where
    -- ---- what is found

    pub found_right : (l : List E) → IsCut at (l ++ x ∷ r) → at x ≡ Less → found at (l ++ x ∷ r) ≡ found at r
    found_right [] c h = let other : is_eq (at x) ≡ false = ap is_eq h in rw other refl
    found_right (y ∷ l) c h =
        let other : is_eq (at y) ≡ false = ap is_eq (before y l x r c.0 (λ g. less-greater h g)) in
        rw other (found_right l c.1 h)

    pub found_here : (l : List E) → IsCut at (l ++ x ∷ r) → at x ≡ Equal → found at (l ++ x ∷ r) ≡ Some x
    found_here [] c h = let here : is_eq (at x) ≡ true = ap is_eq h in rw here refl
    found_here (y ∷ l) c h =
        let other : is_eq (at y) ≡ false = ap is_eq (before y l x r c.0 (λ g. equal-greater h g)) in
        rw other (found_here l c.1 h)

    pub found_left : (l : List E) → IsCut at (l ++ x ∷ r) → at x ≡ Greater → found at (l ++ x ∷ r) ≡ found at l
    found_left [] c h = let other : is_eq (at x) ≡ false = ap is_eq h in rw other (found_behind r (rest_behind x r c.0 h))
    found_left (y ∷ l) c h = rw (found_left l c.1 h) refl

    -- ---- what is behind

    pub next_right : (l : List E) → IsCut at (l ++ x ∷ r) → (at x ≡ Greater → ⊥) → first_behind at (l ++ x ∷ r) ≡ first_behind at r
    next_right [] c n = rw (not_behind (at x) n) refl
    next_right (y ∷ l) c n =
        let other : is_gt (at y) ≡ false = ap is_gt (before y l x r c.0 n) in
        rw other (next_right l c.1 n)

    pub next_left : (l : List E) → at x ≡ Greater → first_behind at (l ++ x ∷ r) ≡ or_else (first_behind at l) (Some x)
    next_left [] h = let here : is_gt (at x) ≡ true = ap is_gt h in rw here refl
    next_left (y ∷ l) h = go (is_gt (at y)) (next_left l h)
      where
        go : (b : Bool) → first_behind at (l ++ x ∷ r) ≡ or_else (first_behind at l) (Some x) → (if b then Some y else first_behind at (l ++ x ∷ r)) ≡ or_else (if b then Some y else first_behind at l) (Some x)
        go true ih = refl
        go false ih = ih

    -- ---- without one

    pub without_here : (l : List E) → IsCut at (l ++ x ∷ r) → at x ≡ Equal → without at (l ++ x ∷ r) ≡ l ++ r
    without_here [] c h = let here : is_eq (at x) ≡ true = ap is_eq h in rw here refl
    without_here (y ∷ l) c h =
        let other : is_eq (at y) ≡ false = ap is_eq (before y l x r c.0 (λ g. equal-greater h g)) in
        rw other (ap (λ ys. y ∷ ys) (without_here l c.1 h))

    -- ---- one that is changed

    module _ (f : E → E) where
      pub changed_right : (l : List E) → IsCut at (l ++ x ∷ r) → at x ≡ Less → with_changed at f (l ++ x ∷ r) ≡ l ++ x ∷ with_changed at f r
      changed_right [] c h = let other : is_eq (at x) ≡ false = ap is_eq h in rw other refl
      changed_right (y ∷ l) c h =
          let other : is_eq (at y) ≡ false = ap is_eq (before y l x r c.0 (λ g. less-greater h g)) in
          rw other (ap (λ ys. y ∷ ys) (changed_right l c.1 h))

      pub changed_here : (l : List E) → IsCut at (l ++ x ∷ r) → at x ≡ Equal → with_changed at f (l ++ x ∷ r) ≡ l ++ f x ∷ r
      changed_here [] c h = let here : is_eq (at x) ≡ true = ap is_eq h in rw here refl
      changed_here (y ∷ l) c h =
          let other : is_eq (at y) ≡ false = ap is_eq (before y l x r c.0 (λ g. equal-greater h g)) in
          rw other (ap (λ ys. y ∷ ys) (changed_here l c.1 h))

      pub changed_left : (l : List E) → IsCut at (l ++ x ∷ r) → at x ≡ Greater → with_changed at f (l ++ x ∷ r) ≡ with_changed at f l ++ x ∷ r
      changed_left [] c h = let other : is_eq (at x) ≡ false = ap is_eq h in rw other (ap (λ ys. x ∷ ys) (changed_behind f r (rest_behind x r c.0 h)))
      changed_left (y ∷ l) c h = go (is_eq (at y)) (changed_left l c.1 h)
        where
          go : (b : Bool) → with_changed at f (l ++ x ∷ r) ≡ with_changed at f l ++ x ∷ r → (if b then f y ∷ l ++ x ∷ r else y ∷ with_changed at f (l ++ x ∷ r)) ≡ (if b then f y ∷ l else y ∷ with_changed at f l) ++ x ∷ r
          go true ih = refl
          go false ih = ap (λ ys. y ∷ ys) ih

-- ---- an element that is put

module _ {E : Type 0} (cmp : E → E → Ordering) (e x : E) (r : List E) where
  pub put_right : (l : List E) → IsCut (λ y. cmp y e) (l ++ x ∷ r) → cmp x e ≡ Less → with_put cmp e (l ++ x ∷ r) ≡ l ++ x ∷ with_put cmp e r
  put_right [] c h = rw h refl
  put_right (y ∷ l) c h =
      let less : cmp y e ≡ Less = before (λ z. cmp z e) y l x r c.0 (λ g. less-greater h g) in
      rw less (ap (λ ys. y ∷ ys) (put_right l c.1 h))

  pub put_here : (l : List E) → IsCut (λ y. cmp y e) (l ++ x ∷ r) → cmp x e ≡ Equal → with_put cmp e (l ++ x ∷ r) ≡ l ++ e ∷ r
  put_here [] c h = rw h refl
  put_here (y ∷ l) c h =
      let less : cmp y e ≡ Less = before (λ z. cmp z e) y l x r c.0 (λ g. equal-greater h g) in
      rw less (ap (λ ys. y ∷ ys) (put_here l c.1 h))

  pub put_left : (l : List E) → cmp x e ≡ Greater → with_put cmp e (l ++ x ∷ r) ≡ with_put cmp e l ++ x ∷ r
  put_left [] h = rw h refl
  put_left (y ∷ l) h = go (cmp y e) (put_left l h)
    where
      go : (o : Ordering) → with_put cmp e (l ++ x ∷ r) ≡ with_put cmp e l ++ x ∷ r → put_by o e y (l ++ x ∷ r) (with_put cmp e (l ++ x ∷ r)) ≡ put_by o e y l (with_put cmp e l) ++ x ∷ r
      go Less ih = ap (λ ys. y ∷ ys) ih
      go Equal ih = refl
      go Greater ih = refl
