-- Elements in order of a key are cut by a place of the order, and stay in order.
use Rattle.std.proofs.Common.{◌≡◌, ◌⊎◌, inl, inr, Bool, not, List, [], ◌∷◌, filter, refl, sym, ap, subst, ◌∙◌}
use Rattle.std.specs.declared.cmp.Ordering.{Ordering}
use Rattle.std.specs.declared.cmp.Ordering.TheVariants.{Less, Equal, Greater}
use Rattle.std.specs.Ordering.{is_eq, ordering_reverse}
use Rattle.std.specs.Cmp.{IsTotalOrder}
use Rattle.std.proofs.lemmas.Bool.{cond_both}
use Rattle.lists_and_limits.specs.Cuts.{AreBehind, IsCut}
use Rattle.lists_and_limits.specs.Lists.{put_by, with_changed, with_put, without}
use Rattle.lists_and_limits.specs.Orders.{IsBelowAll, AscendBy, IsPlace, OrderLaw}
use Rattle.lists_and_limits.proofs.Each.{each_put, each_without, each_changed, each_filter, each_weaker}

module _ {E K : Type 0} (key : E → K) (cmp : K → K → Ordering) where
  abbrev order : E → E → Ordering
  order a b = cmp (key a) (key b)

  abbrev IsAfter : K → E → Type 0
  IsAfter k x = cmp k (key x) ≡ Less

  side_here : (at : E → Ordering) (x y : E) → (at x ≡ Less) ⊎ (at y ≡ Greater) → (at x ≡ Less → ⊥) → at y ≡ Greater
  side_here at x y (inl e) n = absurd (n e)
  side_here at x y (inr g) n = g

  behind : (at : E → Ordering) (x : E) (xs : List E) → IsPlace order at → (at x ≡ Less → ⊥) → IsBelowAll key cmp (key x) xs → AreBehind at xs
  behind at x xs p n b = each_weaker (IsAfter (key x)) (λ y. at y ≡ Greater) (λ y l. side_here at x y (p x y l) n) xs b

  equal-less : {o : Ordering} → o ≡ Equal → o ≡ Less → ⊥
  equal-less e l = cc

  greater-less : {o : Ordering} → o ≡ Greater → o ≡ Less → ⊥
  greater-less g l = cc

  side : (at : E → Ordering) (o : Ordering) (x : E) (xs : List E) → at x ≡ o → IsPlace order at → IsBelowAll key cmp (key x) xs → (at x ≡ Less) ⊎ AreBehind at xs
  side at Less x xs is p b = inl is
  side at Equal x xs is p b = inr (behind at x xs p (λ l. equal-less is l) b)
  side at Greater x xs is p b = inr (behind at x xs p (λ l. greater-less is l) b)

  pub cut : (at : E → Ordering) (xs : List E) → IsPlace order at → AscendBy key cmp xs → IsCut at xs
  cut at [] p a = tt
  cut at (x ∷ xs) p a = (side at (at x) x xs refl p a.0, cut at xs p a.1)

  pub ascends_without : (at : E → Ordering) (xs : List E) → AscendBy key cmp xs → AscendBy key cmp (without at xs)
  ascends_without at [] a = tt
  ascends_without at (x ∷ xs) a =
      let more = ascends_without at xs a.1 in
      cond_both (is_eq (at x)) _ _ (AscendBy key cmp) (λ _. a.1) (λ _. (each_without (IsAfter (key x)) at xs a.0, more))

  pub ascends_filter : (test : E → Bool) (xs : List E) → AscendBy key cmp xs → AscendBy key cmp (filter test xs)
  ascends_filter test [] a = tt
  ascends_filter test (x ∷ xs) a =
      let more = ascends_filter test xs a.1 in
      cond_both (test x) _ _ (AscendBy key cmp) (λ _. (each_filter (IsAfter (key x)) test xs a.0, more)) (λ _. more)

  -- a change that keeps the keys
  pub ascends_changed : (at : E → Ordering) (f : E → E) → ((x : E) → key (f x) ≡ key x) → (xs : List E) → AscendBy key cmp xs → AscendBy key cmp (with_changed at f xs)
  ascends_changed at f same [] a = tt
  ascends_changed at f same (x ∷ xs) a =
      let more = ascends_changed at f same xs a.1 in
      let later = each_changed (IsAfter (key x)) at f (λ y l. ap (cmp (key x)) (same y) ∙ l) xs a.0 in
      cond_both (is_eq (at x)) _ _ (AscendBy key cmp) (λ _. (subst (λ k. IsBelowAll key cmp k xs) (sym (same x)) a.0, a.1)) (λ _. (later, more))

  module _ (total : IsTotalOrder cmp) where
    pub less : (a b : K) → cmp a b ≡ Greater → cmp b a ≡ Less
    less a b e = total.antisymm b a ∙ ap ordering_reverse e

    pub greater : (a b : K) → cmp a b ≡ Less → cmp b a ≡ Greater
    greater a b e = total.antisymm b a ∙ ap ordering_reverse e

    beside : (o : Ordering) (a b p : K) → cmp a p ≡ o → cmp a b ≡ Less → (cmp a p ≡ Less) ⊎ (cmp b p ≡ Greater)
    beside Less a b p is h = inl is
    beside Equal a b p is h = inr (greater p b (sym (total.congr a p b is) ∙ h))
    beside Greater a b p is h = inr (greater p b (total.trans p a b (less a p is) h))

    pub place_key : (p : K) → IsPlace order (λ x. cmp (key x) p)
    place_key p a b h = beside (cmp (key a) p) (key a) (key b) p refl h

    pub cut_key : (p : K) (xs : List E) → AscendBy key cmp xs → IsCut (λ x. cmp (key x) p) xs
    cut_key p xs a = cut (λ x. cmp (key x) p) xs (place_key p) a

    pub below_less : (a b : K) (xs : List E) → cmp b a ≡ Less → IsBelowAll key cmp a xs → IsBelowAll key cmp b xs
    below_less a b xs h l = each_weaker (IsAfter a) (IsAfter b) (λ x k. total.trans b a (key x) h k) xs l

    pub below_equal : (a b : K) (xs : List E) → cmp a b ≡ Equal → IsBelowAll key cmp a xs → IsBelowAll key cmp b xs
    below_equal a b xs h l = each_weaker (IsAfter a) (IsAfter b) (λ x k. sym (total.congr a b (key x) h) ∙ k) xs l

    pub ascends_put : (e : E) (xs : List E) → AscendBy key cmp xs → AscendBy key cmp (with_put order e xs)
    ascends_put e [] a = (tt, tt)
    ascends_put e (x ∷ xs) a = go (order x e) refl (ascends_put e xs a.1)
      where
        go : (o : Ordering) → order x e ≡ o → AscendBy key cmp (with_put order e xs) → AscendBy key cmp (put_by o e x xs (with_put order e xs))
        go Less is ih = (each_put (IsAfter (key x)) order e xs is a.0, ih)
        go Equal is ih = (below_equal (key x) (key e) xs is a.0, a.1)
        go Greater is ih = let l = less (key x) (key e) is in ((l, below_less (key x) (key e) xs l a.0), a)

pub law : {E : Type 0} (cmp : E → E → Ordering) → IsTotalOrder cmp → OrderLaw cmp
law cmp total = record {
  cut = cut (λ x. x) cmp;
  cut_element = cut_key (λ x. x) cmp total;
  put = ascends_put (λ x. x) cmp total;
  without_one = ascends_without (λ x. x) cmp;
  without_any = λ at. ascends_filter (λ x. x) cmp (λ x. not (is_eq (at x)));
}
