-- Rows whose elements belong together place by place.
use Rattle.std.proofs.Common.{◌≡◌, ◌≢◌, ◌⊎◌, ◌∙◌, ℕ, zero, suc, ◌+◌, ◌<◌, List, [], ◌∷◌, ◌++◌, length, Some, refl, sym, ap, subst, inl, inr, arith, append_assoc, length-set, length-append, slice_index_or, take, add-one}
use Rattle.std.specs.List.{slice_get, slice_set, insert, remove}
use Rattle.std.proofs.lemmas.Option.{slice_get_within}
use mathlib.Core.Logic.{dite}
use native.Mathlib.Decide.{ℕ_discrete}
use Rattle.sidecar_node.specs.Rows.{Along}

module _ {A : Type 0} where
  pub get_set_same : (xs : List A) (k : ℕ) (a b : A) → slice_get xs k ≡ Some a → slice_get (slice_set xs k b) k ≡ Some b
  get_set_same [] k a b e = absurd (let h : ⊥ = cc in h)
  get_set_same (x ∷ xs) zero a b e = refl
  get_set_same (x ∷ xs) (suc k) a b e = get_set_same xs k a b e

  pub get_set_other : (xs : List A) (j k : ℕ) (b : A) → j ≢ k → slice_get (slice_set xs k b) j ≡ slice_get xs j
  get_set_other [] j k b h = refl
  get_set_other (x ∷ xs) zero zero b h = absurd (h refl)
  get_set_other (x ∷ xs) zero (suc k) b h = refl
  get_set_other (x ∷ xs) (suc j) zero b h = refl
  get_set_other (x ∷ xs) (suc j) (suc k) b h = get_set_other xs j k b (λ e. h (ap suc e))

  pub get_push : (xs : List A) (k : ℕ) (x a : A) → slice_get (xs ++ x ∷ []) k ≡ Some a → (slice_get xs k ≡ Some a) ⊎ ((k ≡ length xs) × (a ≡ x))
  get_push [] zero x a e = inr (refl, cc)
  get_push [] (suc k) x a e = absurd (let h : ⊥ = cc in h)
  get_push (y ∷ ys) zero x a e = inl e
  get_push (y ∷ ys) (suc k) x a e = elim (get_push ys k x a e) [ inl h ↦ inl h | inr h ↦ inr (ap suc h.0, h.1) ]

  pub get_here : (xs : List A) (k : ℕ) (a : A) → k < length xs → a ≡ slice_index_or xs k a → slice_get xs k ≡ Some a
  get_here [] k a l e = absurd (omega arith)
  get_here (x ∷ xs) zero a l e = ap Some (sym e)
  get_here (x ∷ xs) (suc k) a l e = get_here xs k a (omega arith) e

  pub put_back : (xs : List A) (k : ℕ) (b : A) → k < length xs → insert (remove xs k) k b ≡ slice_set xs k b
  put_back [] k b l = absurd (omega arith)
  put_back (x ∷ xs) zero b l = refl
  put_back (x ∷ xs) (suc k) b l = ap (λ (ys : List A). x ∷ ys) (put_back xs k b (omega arith))

module _ {A B : Type 0} where
  pub get_there : (xs : List A) (ys : List B) (k : ℕ) (x : A) → length ys ≡ length xs → slice_get xs k ≡ Some x → (y : B) × (slice_get ys k ≡ Some y)
  get_there [] ys k x l e = absurd (let h : ⊥ = cc in h)
  get_there (a ∷ xs) [] k x l e = absurd (omega arith)
  get_there (a ∷ xs) (b ∷ ys) zero x l e = (b, refl)
  get_there (a ∷ xs) (b ∷ ys) (suc k) x l e = get_there xs ys k x (omega arith) e

  -- one element of the second row was replaced
  pub along_set : (R : ℕ → A → B → Type 0) (xs : List A) (ys : List B) (k : ℕ) (x : A) (b : B) → Along R xs ys → slice_get xs k ≡ Some x → R k x b → Along R xs (slice_set ys k b)
  along_set R xs ys k x b r at here =
      let there = get_there xs ys k x r.many at in record {
        many = length-set ys k b ∙ r.many;
        each = λ j u v eu ev. dite (ℕ_discrete j k)
            (λ is. let same : slice_get (slice_set ys k b) k ≡ Some b = get_set_same ys k there.0 b there.1 in
            let ex : x ≡ u = cc (at, eu, is) in
            let ey : b ≡ v = cc (same, ev, is) in
            subst (λ (p : ℕ × A × B). R p.0 p.1 p.2) (λ i. (sym is i, ex i, ey i)) here)
            (λ other. r.each j u v eu (sym (get_set_other ys j k b other) ∙ ev));
      }

  pub along_none : (R : ℕ → A → B → Type 0) → Along R [] []
  along_none R = record { many = refl; each = λ k x y ex ey. absurd (let h : ⊥ = cc (ex) in h) }

  pub along_push : (R : ℕ → A → B → Type 0) (xs : List A) (ys : List B) (x : A) (y : B) → Along R xs ys → R (length xs) x y → Along R (xs ++ x ∷ []) (ys ++ y ∷ [])
  along_push R xs ys x y r here = record {
    many = let m = r.many in omega (arith, length-append xs (x ∷ []), length-append ys (y ∷ []));
    each = λ k u v eu ev. elim (get_push xs k x u eu) [
      | inl old ↦ elim (get_push ys k y v ev) [
        | inl also ↦ r.each k u v old also
        | inr last ↦ absurd (let l = slice_get_within xs k u old in let m = r.many in let e = last.0 in omega arith)
      ]
      | inr new ↦ elim (get_push ys k y v ev) [
        | inl also ↦ absurd (let l = slice_get_within ys k v also in let m = r.many in let e = new.0 in omega arith)
        | inr last ↦ subst (λ (p : ℕ × A × B). R p.0 p.1 p.2) (λ i. (sym new.0 i, sym new.1 i, sym last.1 i)) here
      ]
    ];
  }

  pub along_map : (R Q : ℕ → A → B → Type 0) (xs : List A) (ys : List B) → Along R xs ys → ((k : ℕ) (x : A) (y : B) → R k x y → Q k x y) → Along Q xs ys
  along_map R Q xs ys r f = record { many = r.many; each = λ k x y ex ey. f k x y (r.each k x y ex ey) }

module _ {A : Type 0} where
  pub along_self : (R : ℕ → A → A → Type 0) (xs : List A) → ((k : ℕ) (x : A) → R k x x) → Along R xs xs
  along_self R xs f = record { many = refl; each = λ k x y ex ey. let e : x ≡ y = cc (ex, ey) in subst (R k x) e (f k x) }

  -- one element was replaced, and the others stayed
  pub along_put : (R : ℕ → A → A → Type 0) (xs : List A) (k : ℕ) (a b : A) → slice_get xs k ≡ Some a → R k a b → ((j : ℕ) (x : A) → j ≢ k → R j x x) → Along R xs (slice_set xs k b)
  along_put R xs k a b at here f = record {
    many = length-set xs k b;
    each = λ j u v eu ev. dite (ℕ_discrete j k)
        (λ is. let same : slice_get (slice_set xs k b) k ≡ Some b = get_set_same xs k a b at in
        let ex : a ≡ u = cc (at, eu, is) in
        let ey : b ≡ v = cc (same, ev, is) in
        subst (λ (p : ℕ × A × A). R p.0 p.1 p.2) (λ i. (sym is i, ex i, ey i)) here)
        (λ other. let o : slice_get (slice_set xs k b) j ≡ slice_get xs j = get_set_other xs j k b other in
        let e : u ≡ v = cc (o, eu, ev) in
        subst (R j u) e (f j u other));
  }

pub along_then : {A B C : Type 0} (R : ℕ → A → B → Type 0) (Q : ℕ → B → C → Type 0) (P : ℕ → A → C → Type 0) (xs : List A) (ys : List B) (zs : List C) → Along R xs ys → Along Q ys zs → ((k : ℕ) (x : A) (y : B) (z : C) → R k x y → Q k y z → P k x z) → Along P xs zs
along_then R Q P xs ys zs r q f = record {
  many = q.many ∙ r.many;
  each = λ k x z ex ez. let there = get_there xs ys k x r.many ex in f k x there.0 z (r.each k x there.0 ex there.1) (q.each k there.0 z there.1 ez);
}

-- ---- the first elements of a row

take_get : {A : Type 0} (xs : List A) (k : ℕ) (x : A) → slice_get xs k ≡ Some x → take (k + 1) xs ≡ take k xs ++ x ∷ []
take_get xs k x e = rw add-one (go xs k x e)
  where
    go : {A : Type 0} (xs : List A) (k : ℕ) (x : A) → slice_get xs k ≡ Some x → take (suc k) xs ≡ take k xs ++ x ∷ []
    go [] k x e = absurd (let h : ⊥ = cc in h)
    go (y ∷ ys) zero x e = let same : y ≡ x = cc in ap (λ z. z ∷ []) same
    go (y ∷ ys) (suc k) x e = ap (λ zs. y ∷ zs) (go ys k x e)

length_take_get : {A : Type 0} (xs : List A) (k : ℕ) (x : A) → slice_get xs k ≡ Some x → length (take k xs) ≡ k
length_take_get [] k x e = absurd (let h : ⊥ = cc in h)
length_take_get (y ∷ ys) zero x e = refl
length_take_get (y ∷ ys) (suc k) x e = ap suc (length_take_get ys k x e)

take_whole : {A : Type 0} (xs : List A) (k : ℕ) → length xs ≡ k → take k xs ≡ xs
take_whole [] zero e = refl
take_whole [] (suc k) e = refl
take_whole (x ∷ xs) zero e = absurd (omega arith)
take_whole (x ∷ xs) (suc k) e = ap (λ zs. x ∷ zs) (take_whole xs k (omega arith))

-- the row of the first elements got one more
pub along_more : {A B : Type 0} (R : ℕ → A → B → Type 0) (xs : List A) (ys : List B) (k : ℕ) (x : A) (y : B) → Along R (take k xs) ys → slice_get xs k ≡ Some x → R k x y → Along R (take (k + 1) xs) (ys ++ y ∷ [])
along_more R xs ys k x y r at here =
    subst (λ zs. Along R zs (ys ++ y ∷ [])) (sym (take_get xs k x at))
    (along_push R (take k xs) ys x y r (subst (λ (n : ℕ). R n x y) (sym (length_take_get xs k x at)) here))

pub along_whole : {A B : Type 0} (R : ℕ → A → B → Type 0) (xs : List A) (ys : List B) (k : ℕ) → length xs ≡ k → Along R (take k xs) ys → Along R xs ys
along_whole R xs ys k e r = subst (λ zs. Along R zs ys) (take_whole xs k e) r

-- the element behind a front
pub get_behind : {A : Type 0} (xs rest : List A) (x : A) → slice_get ((xs ++ x ∷ []) ++ rest) (length xs) ≡ Some x
get_behind [] rest x = refl
get_behind (y ∷ ys) rest x = get_behind ys rest x

-- the last element of a front, which leaves it
pub get_popped : {A : Type 0} (whole head front rest : List A) (x : A) (k : ℕ) → head ++ rest ≡ whole → head ≡ front ++ x ∷ [] → length front ≡ k → slice_get whole k ≡ Some x
get_popped {A = A} whole head front rest x k e f many =
    let same : (front ++ x ∷ []) ++ rest ≡ whole = ap (λ (zs : List A). zs ++ rest) (sym f) ∙ e in
    subst (λ (p : ℕ × List A). slice_get p.1 p.0 ≡ Some x) (λ i. (many i, same i)) (get_behind front rest x)

pub pop_front : {A : Type 0} (whole head front rest : List A) (x : A) → head ++ rest ≡ whole → head ≡ front ++ x ∷ [] → front ++ (x ∷ rest) ≡ whole
pop_front {A = A} whole head front rest x e f = sym (append_assoc front (x ∷ []) rest) ∙ (ap (λ (zs : List A). zs ++ rest) (sym f) ∙ e)
