-- Places of texts in an interner, and what is at these places in a list beside it.
use Rattle.std.proofs.Common.{◌≡◌, ◌<◌, ◌+◌, ℕ, zero, suc, Bool, true, false, List, [], ◌∷◌, ◌++◌, length, get_or, Option, None, Some, is_some, refl, sym, subst, ◌∙◌, arith, add-one}
use Rattle.std.specs.List.{slice_get}
use Rattle.std.specs.Str.{bytes_eq}
use Rattle.std.proofs.lemmas.Slice.Eq.{bytes_eq-Decides}
use Rattle.solo_run.specs.Interner.{place_in, AreDistinct}

-- the place of a text after another one
pub record PlaceBehind (text : List ℕ) (t : List ℕ) (ts : List (List ℕ)) (i : ℕ) : Type 0 where
  pub other : bytes_eq text t ≡ false
  pub place : ℕ
  pub here : place_in text ts ≡ Some place
  pub shift : i ≡ suc place

-- the cases of a place in a list: at its head, or after it
pub place_cases : (text t : List ℕ) (ts : List (List ℕ)) (i : ℕ) (P : Type 0) → place_in text (t ∷ ts) ≡ Some i
    → (bytes_eq text t ≡ true → i ≡ 0 → P) → (PlaceBehind text t ts i → P) → P
place_cases text t ts i P h head behind = by (bytes_eq text t) refl (place_in text ts) refl
  where
    by : (b : Bool) → bytes_eq text t ≡ b → (r : Option ℕ) → place_in text ts ≡ r → P
    by true e r p = let found : Some 0 ≡ Some i = rw e at h in head e (cc)
    by false e None p = let found : ◌≡◌ {A = Option ℕ} None (Some i) = rw (e, p) at h in absurd (cc)
    by false e (Some n) p =
        let found : Some (n + 1) ≡ Some i = rw (e, p) at h in
        let same : n + 1 ≡ i = cc in
        behind (record { other = e; place = n; here = p; shift = omega arith })

pub place_below : (text : List ℕ) (ts : List (List ℕ)) (i : ℕ) → place_in text ts ≡ Some i → i < length ts
place_below text [] i h = absurd (cc)
place_below text (t ∷ ts) i h =
    place_cases text t ts i (i < length (t ∷ ts)) h (λ e z. omega arith)
    (λ b. let below = place_below text ts b.place b.here in let s = b.shift in omega arith)

-- the cases of a text that has no place
pub no_place_cases : (text t : List ℕ) (ts : List (List ℕ)) (P : Type 0) → place_in text (t ∷ ts) ≡ None → (bytes_eq text t ≡ false → place_in text ts ≡ None → P) → P
no_place_cases text t ts P h rest = by (bytes_eq text t) refl (place_in text ts) refl
  where
    by : (b : Bool) → bytes_eq text t ≡ b → (r : Option ℕ) → place_in text ts ≡ r → P
    by true e r p = let found : Some 0 ≡ None = rw e at h in absurd (cc)
    by false e None p = rest e p
    by false e (Some n) p = let found : Some (n + 1) ≡ None = rw (e, p) at h in absurd (cc)

-- each text of a list of distinct ones is found at its place
pub distinct_place : (ts : List (List ℕ)) (i : ℕ) → AreDistinct ts → i < length ts → place_in (get_or ts i []) ts ≡ Some i
distinct_place [] i h l = absurd (omega arith)
distinct_place (t ∷ ts) zero h l = rw ((bytes_eq-Decides t t).1 refl)
distinct_place (t ∷ ts) (suc i) h l =
    let ih = distinct_place ts i h.1 (omega arith) in
    by (bytes_eq (get_or ts i []) t) refl ih
  where
    by : (b : Bool) → bytes_eq (get_or ts i []) t ≡ b → place_in (get_or ts i []) ts ≡ Some i → place_in (get_or ts i []) (t ∷ ts) ≡ Some (suc i)
    by true e ih =
        let same = (bytes_eq-Decides (get_or ts i []) t).0 e in
        let there : place_in t ts ≡ Some i = rw same at ih in
        absurd (let gone = h.0 in cc)
    by false e ih = rw (e, ih, add-one)

-- the text at a place of distinct ones is found there
pub place_of : (ts : List (List ℕ)) (text : List ℕ) (i : ℕ) → AreDistinct ts → slice_get ts i ≡ Some text → place_in text ts ≡ Some i
place_of ts text i h e =
    let is : get_or ts i [] ≡ text = got ts text i e in
    subst (λ (t : List ℕ). place_in t ts ≡ Some i) is (distinct_place ts i h (within ts text i e))
  where
    got : (us : List (List ℕ)) (u : List ℕ) (j : ℕ) → slice_get us j ≡ Some u → get_or us j [] ≡ u
    got [] u j q = absurd (cc)
    got (v ∷ us) u zero q = cc
    got (v ∷ us) u (suc j) q = got us u j q

    within : (us : List (List ℕ)) (u : List ℕ) (j : ℕ) → slice_get us j ≡ Some u → j < length us
    within [] u j q = absurd (cc)
    within (v ∷ us) u zero q = omega arith
    within (v ∷ us) u (suc j) q = let rest = within us u j q in omega arith

-- a text's place stays when another text is added at the end
pub place-push : (text : List ℕ) (ts : List (List ℕ)) (t : List ℕ) → bytes_eq text t ≡ false → place_in text (ts ++ t ∷ []) ≡ place_in text ts
place-push text [] t e = rw e
place-push text (u ∷ ts) t e = by (bytes_eq text u) refl (place-push text ts t e)
  where
    by : (b : Bool) → bytes_eq text u ≡ b → place_in text (ts ++ t ∷ []) ≡ place_in text ts → place_in text ((u ∷ ts) ++ t ∷ []) ≡ place_in text (u ∷ ts)
    by true f ih = rw f
    by false f ih = rw (f, ih)

-- a new text keeps the texts distinct
pub distinct-push : (ts : List (List ℕ)) (t : List ℕ) → AreDistinct ts → place_in t ts ≡ None → AreDistinct (ts ++ t ∷ [])
distinct-push [] t h new = (refl, tt)
distinct-push (u ∷ ts) t h new =
    no_place_cases t u ts (AreDistinct ((u ∷ ts) ++ t ∷ [])) new
    (λ e p. (place-push u ts t (other e) ∙ h.0, distinct-push ts t h.1 p))
  where
    by : (b : Bool) → bytes_eq u t ≡ b → bytes_eq t u ≡ false → bytes_eq u t ≡ false
    by false f e = f
    by true f e =
        let same = (bytes_eq-Decides u t).0 f in
        let back : bytes_eq t u ≡ true = (bytes_eq-Decides t u).1 (sym same) in
        absurd (cc)

    other : bytes_eq t u ≡ false → bytes_eq u t ≡ false
    other e = by (bytes_eq u t) refl e

pub none_of_is_some : {A : Type 0} (o : Option A) → is_some o ≡ false → o ≡ None
none_of_is_some None h = refl
none_of_is_some (Some x) h = absurd (cc)
