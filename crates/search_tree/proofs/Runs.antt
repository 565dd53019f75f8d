-- Elements of which any number match, split at one of them; and matches taken out one after another.
use Rattle.std.proofs.Common.{◌≡◌, ◌⊎◌, inl, inr, suc, ◌+◌, ◌≤◌, Bool, true, false, not, cond, List, [], ◌∷◌, ◌++◌, length, Option, Some, None, Box, refl, sym, ap, subst, ◌∙◌, arith, append_assoc}
use Rattle.std.specs.Option.{is_some}
use Rattle.std.specs.declared.alloc.Global.{Global}
use Rattle.std.specs.declared.cmp.Ordering.{Ordering}
use Rattle.std.specs.declared.cmp.Ordering.TheVariants.{Less, Equal, Greater}
use Rattle.std.specs.Ordering.{is_eq}
use Rattle.search_tree.specs.declared.tree.Node.{Node}
use Rattle.lists_and_limits.specs.Cuts.{AreBehind, NoneBefore, IsCut, IsRun}
use Rattle.lists_and_limits.specs.Lists.{found, count_at, without, without_all}
use Rattle.search_tree.specs.Trees.{element_in, IsWithoutOne}
use Rattle.search_tree.proofs.Cuts.{less-greater, equal-greater, behind_front, behind_middle, found_here, without_here}

less-equal : {o : Ordering} → o ≡ Less → o ≡ Equal → ⊥
less-equal l e = cc

module _ {E : Type 0} (at : E → Ordering) where
  -- how an element relates to those after it
  abbrev Side : E → List E → Type 0
  Side x xs = (at x ≡ Less) ⊎ (((at x ≡ Equal) × NoneBefore at xs) ⊎ ((at x ≡ Greater) × AreBehind at xs))

  none_front : (l m : List E) → NoneBefore at (l ++ m) → NoneBefore at l
  none_front [] m n = tt
  none_front (x ∷ l) m n = (n.0, none_front l m n.1)

  none_middle : (l : List E) (x : E) (r : List E) → NoneBefore at (l ++ x ∷ r) → at x ≡ Less → ⊥
  none_middle [] x r n h = go n.0
    where
      go : (at x ≡ Equal) ⊎ (at x ≡ Greater) → ⊥
      go (inl e) = less-equal h e
      go (inr g) = less-greater h g
  none_middle (y ∷ l) x r n h = none_middle l x r n.1 h

  none_without : (l : List E) (x : E) (r : List E) → NoneBefore at (l ++ x ∷ r) → NoneBefore at (l ++ r)
  none_without [] x r n = n.1
  none_without (y ∷ l) x r n = (n.0, none_without l x r n.1)

  behind_without : (l : List E) (x : E) (r : List E) → AreBehind at (l ++ x ∷ r) → AreBehind at (l ++ r)
  behind_without [] x r b = b.1
  behind_without (y ∷ l) x r b = (b.0, behind_without l x r b.1)

  none_behind : (xs : List E) → AreBehind at xs → NoneBefore at xs
  none_behind [] b = tt
  none_behind (x ∷ xs) b = (inr b.0, none_behind xs b.1)

  -- ---- the parts of a run

  front_side : (x : E) (l m : List E) → Side x (l ++ m) → Side x l
  front_side x l m (inl e) = inl e
  front_side x l m (inr (inl p)) = inr (inl (p.0, none_front l m p.1))
  front_side x l m (inr (inr p)) = inr (inr (p.0, behind_front at l m p.1))

  pub run_front : (l m : List E) → IsRun at (l ++ m) → IsRun at l
  run_front [] m c = tt
  run_front (x ∷ l) m c = (front_side x l m c.0, run_front l m c.1)

  pub run_back : (l m : List E) → IsRun at (l ++ m) → IsRun at m
  run_back [] m c = c
  run_back (x ∷ l) m c = run_back l m c.1

  pub run_behind : (l : List E) (x : E) (r : List E) → IsRun at (l ++ x ∷ r) → IsRun at r
  run_behind l x r c = let m = run_back l (x ∷ r) c in m.1

  side_without : (y : E) (l : List E) (x : E) (r : List E) → Side y (l ++ x ∷ r) → Side y (l ++ r)
  side_without y l x r (inl e) = inl e
  side_without y l x r (inr (inl p)) = inr (inl (p.0, none_without l x r p.1))
  side_without y l x r (inr (inr p)) = inr (inr (p.0, behind_without l x r p.1))

  pub run_without : (l : List E) (x : E) (r : List E) → IsRun at (l ++ x ∷ r) → IsRun at (l ++ r)
  run_without [] x r c = c.1
  run_without (y ∷ l) x r c = (side_without y l x r c.0, run_without l x r c.1)

  cut_side : (o : Ordering) (x : E) (xs : List E) → at x ≡ o → AreBehind at xs → Side x xs
  cut_side Less x xs is b = inl is
  cut_side Equal x xs is b = inr (inl (is, none_behind xs b))
  cut_side Greater x xs is b = inr (inr (is, b))

  run_side : (x : E) (xs : List E) → (at x ≡ Less) ⊎ AreBehind at xs → Side x xs
  run_side x xs (inl e) = inl e
  run_side x xs (inr b) = cut_side (at x) x xs refl b

  -- with at most one match it is a run too
  pub run-cut : (xs : List E) → IsCut at xs → IsRun at xs
  run-cut [] c = tt
  run-cut (x ∷ xs) c = (run_side x xs c.0, run-cut xs c.1)

  before : (y : E) (l : List E) (x : E) (r : List E) → Side y (l ++ x ∷ r) → at x ≡ Less → at y ≡ Less
  before y l x r (inl e) h = e
  before y l x r (inr (inl p)) h = absurd (none_middle l x r p.1 h)
  before y l x r (inr (inr p)) h = absurd (less-greater h (behind_middle at l x r p.1))

  rest_behind : (x : E) (r : List E) → Side x r → at x ≡ Greater → AreBehind at r
  rest_behind x r (inl e) g = absurd (less-greater e g)
  rest_behind x r (inr (inl p)) g = absurd (equal-greater p.0 g)
  rest_behind x r (inr (inr p)) g = p.1

  -- ---- how many they are

  pub count-append : (l m : List E) → count_at at (l ++ m) ≡ count_at at l + count_at at m
  count-append [] m = omega arith
  count-append (x ∷ l) m = go (is_eq (at x)) (count-append l m)
    where
      go : (b : Bool) → count_at at (l ++ m) ≡ count_at at l + count_at at m → cond b (suc (count_at at (l ++ m))) (count_at at (l ++ m)) ≡ cond b (suc (count_at at l)) (count_at at l) + count_at at m
      go true ih = omega arith
      go false ih = ih

  pub count_le : (xs : List E) → count_at at xs ≤ length xs
  count_le [] = omega arith
  count_le (x ∷ xs) = go (is_eq (at x)) (count_le xs)
    where
      go : (b : Bool) → count_at at xs ≤ length xs → cond b (suc (count_at at xs)) (count_at at xs) ≤ suc (length xs)
      go true ih = omega arith
      go false ih = omega arith

  count_behind : (xs : List E) → AreBehind at xs → count_at at xs ≡ 0
  count_behind [] b = refl
  count_behind (x ∷ xs) b = let other : is_eq (at x) ≡ false = ap is_eq b.0 in rw other (count_behind xs b.1)

  module _ (x : E) (r : List E) where
    pub count_right : (l : List E) → IsRun at (l ++ x ∷ r) → at x ≡ Less → count_at at (l ++ x ∷ r) ≡ count_at at r
    count_right [] c h = let other : is_eq (at x) ≡ false = ap is_eq h in rw other refl
    count_right (y ∷ l) c h = let other : is_eq (at y) ≡ false = ap is_eq (before y l x r c.0 h) in rw other (count_right l c.1 h)

    pub count_left : (l : List E) → IsRun at (l ++ x ∷ r) → at x ≡ Greater → count_at at (l ++ x ∷ r) ≡ count_at at l
    count_left [] c h = let other : is_eq (at x) ≡ false = ap is_eq h in rw other (count_behind r (rest_behind x r c.0 h))
    count_left (y ∷ l) c h = rw (count_left l c.1 h) refl

    pub count_here : (l : List E) → at x ≡ Equal → count_at at (l ++ x ∷ r) ≡ count_at at l + 1 + count_at at r
    count_here l h = let here : is_eq (at x) ≡ true = ap is_eq h in count-append l (x ∷ r) ∙ rw here (omega arith)

  -- ---- where none is left

  pub found-none : (xs : List E) → count_at at xs ≡ 0 → found at xs ≡ None
  found-none [] z = refl
  found-none (x ∷ xs) z = go (is_eq (at x)) refl (λ n. found-none xs n)
    where
      go : (b : Bool) → is_eq (at x) ≡ b → (count_at at xs ≡ 0 → found at xs ≡ None) → found at (x ∷ xs) ≡ None
      go true is ih = absurd (let n : suc (count_at at xs) ≡ 0 = rw is at z in omega arith)
      go false is ih = rw is (ih (rw is at z))

  pub without-none : (xs : List E) → count_at at xs ≡ 0 → without at xs ≡ xs
  without-none [] z = refl
  without-none (x ∷ xs) z = go (is_eq (at x)) refl (λ n. without-none xs n)
    where
      go : (b : Bool) → is_eq (at x) ≡ b → (count_at at xs ≡ 0 → without at xs ≡ xs) → without at (x ∷ xs) ≡ x ∷ xs
      go true is ih = absurd (let n : suc (count_at at xs) ≡ 0 = rw is at z in omega arith)
      go false is ih = rw is (ap (λ ys. x ∷ ys) (ih (rw is at z)))

  pub all-none : (xs : List E) → count_at at xs ≡ 0 → without_all at xs ≡ xs
  all-none [] z = refl
  all-none (x ∷ xs) z = go (is_eq (at x)) refl (λ n. all-none xs n)
    where
      go : (b : Bool) → is_eq (at x) ≡ b → (count_at at xs ≡ 0 → without_all at xs ≡ xs) → without_all at (x ∷ xs) ≡ x ∷ xs
      go true is ih = absurd (let n : suc (count_at at xs) ≡ 0 = rw is at z in omega arith)
      go false is ih = rw is (ap (λ ys. x ∷ ys) (ih (rw is at z)))

  all-append : (l m : List E) → without_all at (l ++ m) ≡ without_all at l ++ without_all at m
  all-append [] m = refl
  all-append (x ∷ l) m = go (not (is_eq (at x))) (all-append l m)
    where
      go : (b : Bool) → without_all at (l ++ m) ≡ without_all at l ++ without_all at m → cond b (x ∷ without_all at (l ++ m)) (without_all at (l ++ m)) ≡ cond b (x ∷ without_all at l) (without_all at l) ++ without_all at m
      go true ih = ap (λ ys. x ∷ ys) ih
      go false ih = ih

  all_one : (l : List E) (x : E) (r : List E) → at x ≡ Equal → without_all at (l ++ r) ≡ without_all at (l ++ x ∷ r)
  all_one l x r h = let here : is_eq (at x) ≡ true = ap is_eq h in all-append l r ∙ sym (all-append l (x ∷ r) ∙ rw here refl)

  -- ---- one that is taken out

  module _ {S : Type 0} where
    pub takes_right : (l : List E) (x : E) (r new : List E) (o : Option (Box (Node E S) Global)) → IsRun at (l ++ x ∷ r) → at x ≡ Less → IsWithoutOne at r new o → IsWithoutOne at (l ++ x ∷ r) (l ++ x ∷ new) o
    takes_right l x r new (Some n) c h t = (l ++ x ∷ t.0, t.1, rw t.2 (sym (append_assoc l (x ∷ t.0) (n.value.element ∷ t.1))), rw t.3 (sym (append_assoc l (x ∷ t.0) t.1)), t.4)
    takes_right l x r new None c h t = (rw t.0 refl, count_right x r l c h ∙ t.1)

    pub takes_left : (l : List E) (x : E) (r new : List E) (o : Option (Box (Node E S) Global)) → IsRun at (l ++ x ∷ r) → at x ≡ Greater → IsWithoutOne at l new o → IsWithoutOne at (l ++ x ∷ r) (new ++ x ∷ r) o
    takes_left l x r new (Some n) c h t = (t.0, t.1 ++ x ∷ r, rw t.2 (append_assoc t.0 (n.value.element ∷ t.1) (x ∷ r)), rw t.3 (append_assoc t.0 t.1 (x ∷ r)), t.4)
    takes_left l x r new None c h t = (rw t.0 refl, count_left x r l c h ∙ t.1)

    module _ (old new : List E) where
      -- if there is at most one match, it is the one that is taken
      pub takes-found : (o : Option (Box (Node E S) Global)) → IsCut at old → IsWithoutOne at old new o → element_in o ≡ found at old
      takes-found (Some n) c t = let d = rw t.2 at c in rw t.2 (sym (found_here at n.value.element t.1 t.0 d t.4))
      takes-found None c t = sym (found-none old t.1)

      pub takes-without : (o : Option (Box (Node E S) Global)) → IsCut at old → IsWithoutOne at old new o → new ≡ without at old
      takes-without (Some n) c t = let d = rw t.2 at c in rw (t.2, t.3) (sym (without_here at n.value.element t.1 t.0 d t.4))
      takes-without None c t = t.0 ∙ sym (without-none old t.1)

      -- what remains is a run again
      pub still-run : (o : Option (Box (Node E S) Global)) → IsRun at old → IsWithoutOne at old new o → IsRun at new
      still-run (Some n) c t = rw t.3 (run_without t.0 n.value.element t.1 (subst (IsRun at) t.2 c))
      still-run None c t = rw t.0 c

      pub same-rest : (o : Option (Box (Node E S) Global)) → IsWithoutOne at old new o → without_all at new ≡ without_all at old
      same-rest (Some n) t = rw (t.2, t.3) (all_one t.0 n.value.element t.1 t.4)
      same-rest None t = rw t.0 refl

      pub none-left : (o : Option (Box (Node E S) Global)) → is_some o ≡ false → IsWithoutOne at old new o → without_all at new ≡ new
      none-left (Some n) is t = absurd (cc)
      none-left None is t = rw t.0 (all-none old t.1)
