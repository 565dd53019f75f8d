-- An interner's texts against the keys of its index.
use Rattle.std.proofs.Common.{◌≡◌, ◌⊎◌, inl, inr, ◌<◌, ◌≤◌, ◌+◌, ℕ, suc, Bool, true, false, cond, ltb, List, [], ◌∷◌, ◌++◌, map, length, position, Option, None, Some, refl, arith}
use Rattle.std.specs.Option.{option_map}
use Rattle.std.specs.List.{IsDistinct, AllByRecursion, position_or_len, list_any}
use Rattle.std.specs.Str.{bytes_eq}
use Rattle.std.proofs.lemmas.List.{map_push}
use Rattle.std.proofs.lemmas.Bool.{cases_lt, lt-ltb, le-ltb}
use Rattle.solo_run.specs.Interner.{place_in, AreDistinct}

-- the first place at which a test passes, one further
shifted : (n m : ℕ) → option_map (λ k. k + 1) (cond (ltb n m) (Some n) None) ≡ cond (ltb (1 + n) (suc m)) (Some (1 + n)) None
shifted n m = by (cases_lt n m)
  where
    by : (n < m) ⊎ (m ≤ n) → option_map (λ k. k + 1) (cond (ltb n m) (Some n) None) ≡ cond (ltb (1 + n) (suc m)) (Some (1 + n)) None
    by (inl h) = let next : n + 1 ≡ 1 + n = omega arith in rw (lt-ltb n m h, lt-ltb (1 + n) (suc m) (omega arith), next)
    by (inr h) = rw (le-ltb n m h, le-ltb (1 + n) (suc m) (omega arith))

module _ {V : Type 0} (text_of : V → List ℕ) where
  pub place_in-position : (text : List ℕ) (ks : List V) → place_in text (map text_of ks) ≡ position (λ k. bytes_eq text (text_of k)) ks
  place_in-position text [] = refl
  place_in-position text (k ∷ ks) = by (bytes_eq text (text_of k)) refl (place_in-position text ks)
    where
      by : (t : Bool) → bytes_eq text (text_of k) ≡ t → place_in text (map text_of ks) ≡ position (λ k. bytes_eq text (text_of k)) ks → place_in text (map text_of (k ∷ ks)) ≡ position (λ k. bytes_eq text (text_of k)) (k ∷ ks)
      by true e ih = rw (e, lt-ltb 0 (length (k ∷ ks)) (omega arith))
      by false e ih = rw (e, ih) (shifted (position_or_len (λ k. bytes_eq text (text_of k)) ks) (length ks))

  absent : (k : V) (ks : List V) → AllByRecursion (λ y. bytes_eq (text_of k) (text_of y) ≡ false) ks → place_in (text_of k) (map text_of ks) ≡ None
  absent k [] h = refl
  absent k (x ∷ xs) h = rw (h.0, absent k xs h.1)

  pub distinct_from_unique : (ks : List V) → IsDistinct (λ x y. bytes_eq (text_of x) (text_of y)) ks → AreDistinct (map text_of ks)
  unfolding IsDistinct
  distinct_from_unique [] h = tt
  distinct_from_unique (k ∷ ks) h = (absent k ks h.0, distinct_from_unique ks h.1)

  -- what isn't there isn't found
  pub missing : (text : List ℕ) (ks : List V) → place_in text (map text_of ks) ≡ None → list_any (λ k. bytes_eq text (text_of k)) ks ≡ false
  missing text [] h = refl
  missing text (k ∷ ks) h = by (bytes_eq text (text_of k)) refl (place_in text (map text_of ks)) refl (missing text ks)
    where
      by : (t : Bool) → bytes_eq text (text_of k) ≡ t → (r : Option ℕ) → place_in text (map text_of ks) ≡ r
          → (place_in text (map text_of ks) ≡ None → list_any (λ k. bytes_eq text (text_of k)) ks ≡ false) → list_any (λ k. bytes_eq text (text_of k)) (k ∷ ks) ≡ false
      by true e r p ih = let found = rw e at h in absurd (cc)
      by false e None p ih = rw (e, ih p)
      by false e (Some n) p ih = let found = rw (e, p) at h in absurd (cc)

  -- a new key's text goes last
  pub pushed : (copy : V) (keys new : List V) (text : List ℕ) → text_of copy ≡ text → place_in text (map text_of keys) ≡ None
      → new ≡ cond (list_any (λ k. bytes_eq (text_of copy) (text_of k)) keys) keys (keys ++ copy ∷ []) → map text_of new ≡ map text_of keys ++ text ∷ []
  pushed copy keys new text same gone put =
      let fresh = rw (← same) at gone in
      rw (put, missing (text_of copy) keys fresh, map_push, same)
