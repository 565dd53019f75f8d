-- Elements in order of a key are a map from keys: what each change leaves at each key, where in the list it is, and that
-- two lists are equal if the same is found at each key.
use Rattle.std.proofs.Common.{◌≡◌, suc, ◌≤◌, Bool, true, false, if◌then◌else◌, List, [], ◌∷◌, ◌++◌, length, length-append, filter, Some, None, refl, sym, ap, ◌∙◌, arith}
use Rattle.std.specs.declared.cmp.Ordering.{Ordering}
use Rattle.std.specs.declared.cmp.Ordering.TheVariants.{Less, Equal, Greater}
use Rattle.std.specs.Ordering.{is_eq}
use Rattle.std.specs.Cmp.{IsTotalOrder}
use Rattle.std.proofs.lemmas.Bool.{cond_both}
use Rattle.std.proofs.lemmas.Cmp.{tied_itself, tied_back, alike_right}
use Rattle.lists_and_limits.specs.Lists.{found, without, put_by, with_put}
use Rattle.lists_and_limits.specs.Orders.{IsBelowAll, AscendBy}
use Rattle.lists_and_limits.proofs.Orders.{less, greater, below_less, ascends_put, ascends_without}

pub eq-is : (o : Ordering) → is_eq o ≡ true → o ≡ Equal
eq-is Less h = absurd (cc)
eq-is Equal h = refl
eq-is Greater h = absurd (cc)

-- ---- how many elements a change leaves

module _ {E : Type 0} where
  pub length_put : (cmp : E → E → Ordering) (e : E) (xs : List E) → length (with_put cmp e xs) ≤ suc (length xs)
  length_put cmp e [] = omega arith
  length_put cmp e (x ∷ xs) = go (cmp x e) (length_put cmp e xs)
    where
      go : (o : Ordering) → length (with_put cmp e xs) ≤ suc (length xs) → length (put_by o e x xs (with_put cmp e xs)) ≤ suc (suc (length xs))
      go Less ih = omega arith
      go Equal ih = omega arith
      go Greater ih = omega arith

  pub length_without : (at : E → Ordering) (xs : List E) → length (without at xs) ≤ length xs
  length_without at [] = omega arith
  length_without at (x ∷ xs) =
      let more = length_without at xs in
      cond_both (is_eq (at x)) _ _ (λ r. length r ≤ suc (length xs)) (λ _. omega arith) (λ _. omega arith)

  pub length_filter : (test : E → Bool) (xs : List E) → length (filter test xs) ≤ length xs
  length_filter test [] = omega arith
  length_filter test (x ∷ xs) =
      let more = length_filter test xs in
      cond_both (test x) _ _ (λ r. length r ≤ suc (length xs)) (λ _. omega arith) (λ _. omega arith)

-- ---- what a probe finds

module _ {E : Type 0} (at : E → Ordering) where
  -- what is found matches
  pub found-is : (e : E) (xs : List E) → found at xs ≡ Some e → is_eq (at e) ≡ true
  found-is e [] h = absurd (cc)
  found-is e (x ∷ xs) h = go (is_eq (at x)) refl (λ k. found-is e xs k)
    where
      go : (b : Bool) → is_eq (at x) ≡ b → (found at xs ≡ Some e → is_eq (at e) ≡ true) → is_eq (at e) ≡ true
      go true t ih =
          let k : Some x ≡ Some e = rw t at h in
          let same : x ≡ e = cc in
          rw (← same) t
      go false t ih = ih (rw t at h)

  -- if nothing is found, nothing is taken
  pub without-none : (xs : List E) → found at xs ≡ None → without at xs ≡ xs
  without-none [] h = refl
  without-none (x ∷ xs) h = go (is_eq (at x)) refl (λ k. without-none xs k)
    where
      go : (b : Bool) → is_eq (at x) ≡ b → (found at xs ≡ None → without at xs ≡ xs) → without at (x ∷ xs) ≡ x ∷ xs
      go true t ih = absurd (let k : Some x ≡ None = rw t at h in cc)
      go false t ih = rw (t, ih (rw t at h)) refl

  -- taking all that fail a test
  module _ (test : E → Bool) where
    pub filter-gone : (xs : List E) → ((x : E) → is_eq (at x) ≡ true → test x ≡ false) → found at (filter test xs) ≡ None
    filter-gone [] h = refl
    filter-gone (x ∷ xs) h = go (test x) (is_eq (at x)) refl refl (filter-gone xs h)
      where
        go : (b here : Bool) → test x ≡ b → is_eq (at x) ≡ here → found at (filter test xs) ≡ None → found at (filter test (x ∷ xs)) ≡ None
        go true true e f ih = absurd (let g = h x f in cc)
        go true false e f ih = rw (e, f) ih
        go false here e f ih = rw e ih

    pub filter-others : (xs : List E) → ((x : E) → is_eq (at x) ≡ true → test x ≡ true) → found at (filter test xs) ≡ found at xs
    filter-others [] h = refl
    filter-others (x ∷ xs) h = go (test x) (is_eq (at x)) refl refl (filter-others xs h)
      where
        go : (b here : Bool) → test x ≡ b → is_eq (at x) ≡ here → found at (filter test xs) ≡ found at xs → found at (filter test (x ∷ xs)) ≡ found at (x ∷ xs)
        go true here e f ih = rw (e, ih) refl
        go false true e f ih = absurd (let g = h x f in cc)
        go false false e f ih = rw (e, f) ih

-- ---- elements by key

module _ {E K : Type 0} (key : E → K) (cmp : K → K → Ordering) where
  abbrev at : K → E → Ordering
  at q x = cmp (key x) q

  abbrev order : E → E → Ordering
  order a b = cmp (key a) (key b)

  module _ (total : IsTotalOrder cmp) where
    pub itself : (k : K) → is_eq (cmp k k) ≡ true
    itself k = ap is_eq (tied_itself total k)

    -- two keys that are tied with a third one are tied with each other
    pub meet : (a b q : K) → is_eq (cmp a q) ≡ true → is_eq (cmp b q) ≡ true → is_eq (cmp a b) ≡ true
    meet a b q ha hb = ap is_eq (total.congr a q b (eq-is (cmp a q) ha) ∙ tied_back total b q (eq-is (cmp b q) hb))

    pub back : (a b : K) → is_eq (cmp a b) ≡ true → is_eq (cmp b a) ≡ true
    back a b h = ap is_eq (tied_back total a b (eq-is (cmp a b) h))

    -- ---- tied keys

    pub found-tied : (p q : K) → is_eq (cmp p q) ≡ true → (xs : List E) → found (at p) xs ≡ found (at q) xs
    found-tied p q t [] = refl
    found-tied p q t (x ∷ xs) = rw (alike_right total p q (key x) (eq-is (cmp p q) t), found-tied p q t xs) refl

    pub without-tied : (p q : K) → is_eq (cmp p q) ≡ true → (xs : List E) → without (at p) xs ≡ without (at q) xs
    without-tied p q t [] = refl
    without-tied p q t (x ∷ xs) = rw (alike_right total p q (key x) (eq-is (cmp p q) t), without-tied p q t xs) refl

    -- ---- what is behind a key

    pub below_none : (q : K) (xs : List E) → IsBelowAll key cmp q xs → found (at q) xs ≡ None
    below_none q [] b = refl
    below_none q (x ∷ xs) b =
        let other : is_eq (at q x) ≡ false = ap is_eq (greater key cmp total q (key x) b.0) in
        rw other (below_none q xs b.1)

    -- none behind an element has a key that is tied with its own
    behind_none : (k q : K) (xs : List E) → is_eq (cmp k q) ≡ true → IsBelowAll key cmp k xs → found (at q) xs ≡ None
    behind_none k q xs t b = sym (found-tied k q t xs) ∙ below_none k xs b

    -- nor one before it
    pub after_none : (k q : K) (xs : List E) → cmp k q ≡ Greater → IsBelowAll key cmp k xs → found (at q) xs ≡ None
    after_none k q xs g b = below_none q xs (below_less key cmp total k q xs (less key cmp total k q g) b)

    -- ---- what is found after a change

    -- an element that is put is there
    pub put-there : (e : E) (xs : List E) → found (at (key e)) (with_put order e xs) ≡ Some e
    put-there e [] = rw (itself (key e)) refl
    put-there e (x ∷ xs) = go (order x e) refl (put-there e xs)
      where
        go : (o : Ordering) → order x e ≡ o → found (at (key e)) (with_put order e xs) ≡ Some e → found (at (key e)) (put_by o e x xs (with_put order e xs)) ≡ Some e
        go Less h ih = let other : is_eq (order x e) ≡ false = ap is_eq h in rw other ih
        go Equal h ih = rw (itself (key e)) refl
        go Greater h ih = rw (itself (key e)) refl

    -- and every other is as before
    pub put-others : (e : E) (q : K) (xs : List E) → is_eq (cmp (key e) q) ≡ false → found (at q) (with_put order e xs) ≡ found (at q) xs
    put-others e q [] apart = rw apart refl
    put-others e q (x ∷ xs) apart = go (order x e) refl (put-others e q xs apart)
      where
        go : (o : Ordering) → order x e ≡ o → found (at q) (with_put order e xs) ≡ found (at q) xs → found (at q) (put_by o e x xs (with_put order e xs)) ≡ found (at q) (x ∷ xs)
        go Less h ih = rw ih refl
        go Equal h ih =
            let other : is_eq (at q x) ≡ false = ap is_eq (total.congr (key x) (key e) q h) ∙ apart in
            rw (apart, other) refl
        go Greater h ih = rw apart refl

    -- one that is taken is gone
    pub without-gone : (p : K) (xs : List E) → AscendBy key cmp xs → found (at p) (without (at p) xs) ≡ None
    without-gone p [] a = refl
    without-gone p (x ∷ xs) a = go (is_eq (at p x)) refl (without-gone p xs a.1)
      where
        go : (b : Bool) → is_eq (at p x) ≡ b → found (at p) (without (at p) xs) ≡ None → found (at p) (without (at p) (x ∷ xs)) ≡ None
        go true h ih = rw h (behind_none (key x) p xs h a.0)
        go false h ih = rw (h, h) ih

    -- and every other is as before
    pub without-others : (p q : K) (xs : List E) → is_eq (cmp p q) ≡ false → found (at q) (without (at p) xs) ≡ found (at q) xs
    without-others p q [] apart = refl
    without-others p q (x ∷ xs) apart = go (is_eq (at p x)) refl (without-others p q xs apart)
      where
        go : (b : Bool) → is_eq (at p x) ≡ b → found (at q) (without (at p) xs) ≡ found (at q) xs → found (at q) (without (at p) (x ∷ xs)) ≡ found (at q) (x ∷ xs)
        go true h ih =
            let other : is_eq (at q x) ≡ false = ap is_eq (total.congr (key x) p q (eq-is (at p x) h)) ∙ apart in
            rw (h, other) refl
        go false h ih = rw (h, ih) refl

    -- an element that is put is found at each key that is tied with its own
    pub put-tied : (e : E) (q : K) (xs : List E) → is_eq (cmp (key e) q) ≡ true → found (at q) (with_put order e xs) ≡ Some e
    put-tied e q xs t = sym (found-tied (key e) q t (with_put order e xs)) ∙ put-there e xs

    pub found-put : (e : E) (q : K) (xs : List E) → found (at q) (with_put order e xs) ≡ (if is_eq (cmp (key e) q) then Some e else found (at q) xs)
    found-put e q xs = go (is_eq (cmp (key e) q)) refl
      where
        go : (b : Bool) → is_eq (cmp (key e) q) ≡ b → found (at q) (with_put order e xs) ≡ (if b then Some e else found (at q) xs)
        go true t = put-tied e q xs t
        go false t = put-others e q xs t

    pub found-without : (p q : K) (xs : List E) → AscendBy key cmp xs → found (at q) (without (at p) xs) ≡ (if is_eq (cmp p q) then None else found (at q) xs)
    found-without p q xs a = go (is_eq (cmp p q)) refl
      where
        go : (b : Bool) → is_eq (cmp p q) ≡ b → found (at q) (without (at p) xs) ≡ (if b then None else found (at q) xs)
        go true t = sym (found-tied p q t (without (at p) xs)) ∙ without-gone p xs a
        go false t = without-others p q xs t

    -- ---- lists in which the same is found

    here : (x : E) (xs : List E) → found (at (key x)) (x ∷ xs) ≡ Some x
    here x xs = rw (itself (key x)) refl

    abbrev Alike : List E → List E → Type 0
    Alike xs ys = (q : K) → found (at q) xs ≡ found (at q) ys

    module _ (x y : E) (xs ys : List E) (a : AscendBy key cmp (x ∷ xs)) (b : AscendBy key cmp (y ∷ ys)) (h : Alike (x ∷ xs) (y ∷ ys)) where
      not_less : order x y ≡ Less → ⊥
      not_less l =
          let none : found (at (key x)) (y ∷ ys) ≡ None = below_none (key x) (y ∷ ys) (l, below_less key cmp total (key y) (key x) ys l b.0) in
          let k : Some x ≡ None = sym (here x xs) ∙ (h (key x) ∙ none) in
          cc

      not_greater : order x y ≡ Greater → ⊥
      not_greater g =
          let none : found (at (key y)) (x ∷ xs) ≡ None = (let l = less key cmp total (key x) (key y) g in below_none (key y) (x ∷ xs) (l, below_less key cmp total (key x) (key y) xs l a.0)) in
          let k : None ≡ Some y = sym none ∙ (h (key y) ∙ here y ys) in
          cc

      first_alike : order x y ≡ Equal → x ≡ y
      first_alike e =
          let t : is_eq (order y x) ≡ true = back (key x) (key y) (ap is_eq e) in
          let other : found (at (key x)) (y ∷ ys) ≡ Some y = rw t refl in
          let k : Some x ≡ Some y = sym (here x xs) ∙ (h (key x) ∙ other) in
          cc

      rest_alike : order x y ≡ Equal → Alike xs ys
      rest_alike e q = go (is_eq (at q x)) refl
        where
          to_y : at q y ≡ at q x
          to_y = sym (total.congr (key x) (key y) q e)

          go : (t : Bool) → is_eq (at q x) ≡ t → found (at q) xs ≡ found (at q) ys
          go true t =
              let u : is_eq (at q y) ≡ true = ap is_eq to_y ∙ t in
              behind_none (key x) q xs t a.0 ∙ sym (behind_none (key y) q ys u b.0)
          go false t =
              let u : is_eq (at q y) ≡ false = ap is_eq to_y ∙ t in
              let left : found (at q) (x ∷ xs) ≡ found (at q) xs = rw t refl in
              let right : found (at q) (y ∷ ys) ≡ found (at q) ys = rw u refl in
              sym left ∙ (h q ∙ right)

    pub alike : (xs ys : List E) → AscendBy key cmp xs → AscendBy key cmp ys → Alike xs ys → xs ≡ ys
    alike [] [] a b h = refl
    alike [] (y ∷ ys) a b h = absurd (let k : None ≡ Some y = h (key y) ∙ here y ys in cc)
    alike (x ∷ xs) [] a b h = absurd (let k : Some x ≡ None = sym (here x xs) ∙ h (key x) in cc)
    alike (x ∷ xs) (y ∷ ys) a b h = go (order x y) refl (λ k. alike xs ys a.1 b.1 k)
      where
        go : (o : Ordering) → order x y ≡ o → (Alike xs ys → xs ≡ ys) → (x ∷ xs) ≡ (y ∷ ys)
        go Less e ih = absurd (not_less x y xs ys a b h e)
        go Equal e ih =
            let first : x ≡ y = first_alike x y xs ys a b h e in
            let rest : xs ≡ ys = ih (rest_alike x y xs ys a b h e) in
            cc
        go Greater e ih = absurd (not_greater x y xs ys a b h e)

    -- ---- one change after another

    order_put : (e : E) (xs : List E) → AscendBy key cmp xs → AscendBy key cmp (with_put order e xs)
    order_put = ascends_put key cmp total

    order_without : (p : K) (xs : List E) → AscendBy key cmp xs → AscendBy key cmp (without (at p) xs)
    order_without p = ascends_without key cmp (at p)

    module _ (d e : E) (xs : List E) (a : AscendBy key cmp xs) where
      -- elements of two keys, in either order
      pub put-put : is_eq (order d e) ≡ false → with_put order d (with_put order e xs) ≡ with_put order e (with_put order d xs)
      put-put n = alike _ _ (order_put d (with_put order e xs) (order_put e xs a)) (order_put e (with_put order d xs) (order_put d xs a)) same
        where
          go : (q : K) (s t : Bool) → is_eq (at q d) ≡ s → is_eq (at q e) ≡ t → (if s then Some d else (if t then Some e else found (at q) xs)) ≡ (if t then Some e else (if s then Some d else found (at q) xs))
          go q true true hs ht = absurd (let k : is_eq (order d e) ≡ true = meet (key d) (key e) q hs ht in cc)
          go q true false hs ht = refl
          go q false true hs ht = refl
          go q false false hs ht = refl

          same : Alike (with_put order d (with_put order e xs)) (with_put order e (with_put order d xs))
          same q =
              rw (found-put d q (with_put order e xs), found-put e q xs, found-put e q (with_put order d xs), found-put d q xs)
              (go q (is_eq (at q d)) (is_eq (at q e)) refl refl)

      -- the second element takes the place of the first one
      pub put-over : is_eq (order d e) ≡ true → with_put order d (with_put order e xs) ≡ with_put order d xs
      put-over m = alike _ _ (order_put d (with_put order e xs) (order_put e xs a)) (order_put d xs a) same
        where
          go : (q : K) (s t : Bool) → is_eq (at q d) ≡ s → is_eq (at q e) ≡ t → (if s then Some d else (if t then Some e else found (at q) xs)) ≡ (if s then Some d else found (at q) xs)
          go q true t hs ht = refl
          go q false true hs ht =
              absurd (let k : is_eq (at q d) ≡ true = ap is_eq (total.congr (key d) (key e) q (eq-is (order d e) m)) ∙ ht in cc)
          go q false false hs ht = refl

          same : Alike (with_put order d (with_put order e xs)) (with_put order d xs)
          same q =
              rw (found-put d q (with_put order e xs), found-put e q xs, found-put d q xs)
              (go q (is_eq (at q d)) (is_eq (at q e)) refl refl)

    module _ (p : K) (e : E) (xs : List E) (a : AscendBy key cmp xs) where
      -- an element of another key stays
      pub without-other : is_eq (cmp (key e) p) ≡ false → without (at p) (with_put order e xs) ≡ with_put order e (without (at p) xs)
      without-other n = alike _ _ (order_without p (with_put order e xs) (order_put e xs a)) (order_put e (without (at p) xs) (order_without p xs a)) same
        where
          go : (q : K) (s t : Bool) → is_eq (cmp p q) ≡ s → is_eq (at q e) ≡ t → (if s then None else (if t then Some e else found (at q) xs)) ≡ (if t then Some e else (if s then None else found (at q) xs))
          go q true true hs ht = absurd (let k : is_eq (cmp (key e) p) ≡ true = meet (key e) p q ht hs in cc)
          go q true false hs ht = refl
          go q false true hs ht = refl
          go q false false hs ht = refl

          same : Alike (without (at p) (with_put order e xs)) (with_put order e (without (at p) xs))
          same q =
              rw (found-without p q (with_put order e xs) (order_put e xs a), found-put e q xs, found-put e q (without (at p) xs), found-without p q xs a)
              (go q (is_eq (cmp p q)) (is_eq (at q e)) refl refl)

      -- a new element that is put and taken again leaves the list as it was
      pub without-put : is_eq (cmp (key e) p) ≡ true → found (at p) xs ≡ None → without (at p) (with_put order e xs) ≡ xs
      without-put m new = alike _ _ (order_without p (with_put order e xs) (order_put e xs a)) a same
        where
          go : (q : K) (s t : Bool) → is_eq (cmp p q) ≡ s → is_eq (at q e) ≡ t → (if s then None else (if t then Some e else found (at q) xs)) ≡ found (at q) xs
          go q true t hs ht = sym (sym (found-tied p q hs xs) ∙ new)
          go q false true hs ht =
              absurd (let k : is_eq (cmp p q) ≡ true = ap is_eq (sym (total.congr (key e) p q (eq-is (cmp (key e) p) m))) ∙ ht in cc)
          go q false false hs ht = refl

          same : Alike (without (at p) (with_put order e xs)) xs
          same q =
              rw (found-without p q (with_put order e xs) (order_put e xs a), found-put e q xs)
              (go q (is_eq (cmp p q)) (is_eq (at q e)) refl refl)

      -- an element that is put after one was taken replaces that one
      pub put-without : is_eq (cmp (key e) p) ≡ true → with_put order e (without (at p) xs) ≡ with_put order e xs
      put-without m = alike _ _ (order_put e (without (at p) xs) (order_without p xs a)) (order_put e xs a) same
        where
          go : (q : K) (s t : Bool) → is_eq (at q e) ≡ s → is_eq (cmp p q) ≡ t → (if s then Some e else (if t then None else found (at q) xs)) ≡ (if s then Some e else found (at q) xs)
          go q true t hs ht = refl
          go q false true hs ht =
              absurd (let k : is_eq (at q e) ≡ true = ap is_eq (total.congr (key e) p q (eq-is (cmp (key e) p) m)) ∙ ht in cc)
          go q false false hs ht = refl

          same : Alike (with_put order e (without (at p) xs)) (with_put order e xs)
          same q =
              rw (found-put e q (without (at p) xs), found-without p q xs a, found-put e q xs)
              (go q (is_eq (at q e)) (is_eq (cmp p q)) refl refl)

      -- an element that is taken and put back leaves the list as it was
      pub put-back : found (at p) xs ≡ Some e → with_put order e (without (at p) xs) ≡ xs
      put-back h = put-without (found-is (at p) e xs h) ∙ alike _ _ (order_put e xs a) a same
        where
          go : (q : K) (s : Bool) → is_eq (at q e) ≡ s → (if s then Some e else found (at q) xs) ≡ found (at q) xs
          go q true hs =
              let p_q : is_eq (cmp p q) ≡ true = ap is_eq (sym (total.congr (key e) p q (eq-is (cmp (key e) p) (found-is (at p) e xs h)))) ∙ hs in
              sym h ∙ found-tied p q p_q xs
          go q false hs = refl

          same : Alike (with_put order e xs) xs
          same q = rw (found-put e q xs) (go q (is_eq (at q e)) refl)

    -- ---- where a change is

    -- an element that is put stands in the place of the one that was found at its key
    pub put-found : (e d : E) (xs : List E) → AscendBy key cmp xs → found (at (key e)) xs ≡ Some d → (a : List E) × (b : List E) × (xs ≡ a ++ d ∷ b) × (with_put order e xs ≡ a ++ e ∷ b)
    put-found e d [] o h = absurd (cc)
    put-found e d (x ∷ xs) o h = go (order x e) refl (λ k. put-found e d xs o.1 k)
      where
        go : (c : Ordering) → order x e ≡ c → (found (at (key e)) xs ≡ Some d → (a : List E) × (b : List E) × (xs ≡ a ++ d ∷ b) × (with_put order e xs ≡ a ++ e ∷ b)) → (a : List E) × (b : List E) × ((x ∷ xs) ≡ a ++ d ∷ b) × (put_by c e x xs (with_put order e xs) ≡ a ++ e ∷ b)
        go Less is ih =
            let other : is_eq (order x e) ≡ false = ap is_eq is in
            let s = ih (rw other at h) in
            (x ∷ s.0, s.1, ap (λ ys. x ∷ ys) s.2, ap (λ ys. x ∷ ys) s.3)
        go Equal is ih =
            let t : is_eq (order x e) ≡ true = ap is_eq is in
            let k : Some x ≡ Some d = rw t at h in
            let same : x ≡ d = cc in
            ([], xs, ap (λ y. y ∷ xs) same, refl)
        go Greater is ih =
            let other : is_eq (order x e) ≡ false = ap is_eq is in
            let none : found (at (key e)) xs ≡ None = after_none (key x) (key e) xs is o.0 in
            absurd (let k : found (at (key e)) xs ≡ Some d = rw other at h in cc)

    -- one that was not there stands between two others
    pub put-new : (e : E) (xs : List E) → found (at (key e)) xs ≡ None → (a : List E) × (b : List E) × (xs ≡ a ++ b) × (with_put order e xs ≡ a ++ e ∷ b)
    put-new e [] h = ([], [], refl, refl)
    put-new e (x ∷ xs) h = go (order x e) refl (λ k. put-new e xs k)
      where
        go : (c : Ordering) → order x e ≡ c → (found (at (key e)) xs ≡ None → (a : List E) × (b : List E) × (xs ≡ a ++ b) × (with_put order e xs ≡ a ++ e ∷ b)) → (a : List E) × (b : List E) × ((x ∷ xs) ≡ a ++ b) × (put_by c e x xs (with_put order e xs) ≡ a ++ e ∷ b)
        go Less is ih =
            let other : is_eq (order x e) ≡ false = ap is_eq is in
            let s = ih (rw other at h) in
            (x ∷ s.0, s.1, ap (λ ys. x ∷ ys) s.2, ap (λ ys. x ∷ ys) s.3)
        go Equal is ih =
            let t : is_eq (order x e) ≡ true = ap is_eq is in
            absurd (let k : Some x ≡ None = rw t at h in cc)
        go Greater is ih = ([], x ∷ xs, refl, refl)

    -- and the list is as long as before, if one was there
    pub length-put_found : (e d : E) (xs : List E) → AscendBy key cmp xs → found (at (key e)) xs ≡ Some d → length (with_put order e xs) ≡ length xs
    length-put_found e d xs o h =
        let s = put-found e d xs o h in
        ap length s.3 ∙ (length-append s.0 (e ∷ s.1) ∙ (sym (length-append s.0 (d ∷ s.1)) ∙ sym (ap length s.2)))
