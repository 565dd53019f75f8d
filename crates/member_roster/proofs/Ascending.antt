-- Lists stay in byte order of node through each change at a place that a search gave.
use Rattle.std.proofs.Common.{◌≡◌, ℕ, suc, zero, List, [], ◌∷◌, refl}
use Rattle.std.specs.List.{insert, remove}
use Rattle.std.specs.declared.cmp.Ordering.{Ordering}
use Rattle.std.specs.declared.cmp.Ordering.TheVariants.{Less, Equal, Greater}
use Rattle.std.specs.declared.result.Result.TheVariants.{Err}
use Rattle.std.proofs.lemmas.Cmp.{nat_list_cmp_total}
use Rattle.member_roster.specs.Places.{IsBelowAll, Ascends, place_from, place_by}
use Rattle.member_roster.proofs.Places.{cmp, less, one_more-Err}

module _ {X : Type 0} (key : X → List ℕ) where
  below_less : (b a : List ℕ) (xs : List X) → cmp b a ≡ Less → IsBelowAll key a xs → IsBelowAll key b xs
  below_less b a [] e h = tt
  below_less b a (x ∷ xs) e h = (let t = nat_list_cmp_total in t.trans b a (key x) e h.0, below_less b a xs e h.1)

  below_insert : (a : List ℕ) (xs : List X) (i : ℕ) (y : X) → cmp a (key y) ≡ Less → IsBelowAll key a xs → IsBelowAll key a (insert xs i y)
  below_insert a [] zero y e h = (e, tt)
  below_insert a [] (suc i) y e h = (e, tt)
  below_insert a (x ∷ xs) zero y e h = (e, h)
  below_insert a (x ∷ xs) (suc i) y e h = (h.0, below_insert a xs i y e h.1)

  below_remove : (a : List ℕ) (xs : List X) (i : ℕ) → IsBelowAll key a xs → IsBelowAll key a (remove xs i)
  below_remove a [] zero h = tt
  below_remove a [] (suc i) h = tt
  below_remove a (x ∷ xs) zero h = h.1
  below_remove a (x ∷ xs) (suc i) h = (h.0, below_remove a xs i h.1)

  pub ascends_insert : (y : X) (xs : List X) (i : ℕ) → place_by key (key y) xs ≡ Err i → Ascends key xs → Ascends key (insert xs i y)
  ascends_insert y [] i p a = let z : i ≡ 0 = cc in rw z (tt, tt)
  ascends_insert y (x ∷ xs) i p a = go (cmp (key x) (key y)) refl (λ j q. ascends_insert y xs j q a.1) i p
    where
      go : (o : Ordering) → cmp (key x) (key y) ≡ o → ((j : ℕ) → place_by key (key y) xs ≡ Err j → Ascends key (insert xs j y)) → (i : ℕ) → place_from o (place_by key (key y) xs) ≡ Err i → Ascends key (insert (x ∷ xs) i y)
      go Less e ih i p = let h = one_more-Err (place_by key (key y) xs) i p in rw h.2 (below_insert (key x) xs h.0 y e a.0, ih h.0 h.1)
      go Equal e ih i p = absurd (cc)
      go Greater e ih i p = let z : i ≡ 0 = cc in rw z ((less (key x) (key y) e, below_less (key y) (key x) xs (less (key x) (key y) e) a.0), a)

  pub ascends_remove : (xs : List X) (i : ℕ) → Ascends key xs → Ascends key (remove xs i)
  ascends_remove [] zero a = tt
  ascends_remove [] (suc i) a = tt
  ascends_remove (x ∷ xs) zero a = a.1
  ascends_remove (x ∷ xs) (suc i) a = (below_remove (key x) xs i a.0, ascends_remove xs i a.1)
