-- The place of a node in a list in byte order of node.
use Rattle.std.proofs.Common.{◌≡◌, ℕ, suc, zero, ◌<◌, ◌≤◌, List, [], ◌∷◌, length, get_or, refl, sym, ap, ◌∙◌, arith}
use Rattle.std.specs.declared.cmp.Ordering.{Ordering}
use Rattle.std.specs.declared.cmp.Ordering.TheVariants.{Less, Equal, Greater}
use Rattle.std.specs.declared.result.Result.{Result}
use Rattle.std.specs.declared.result.Result.TheVariants.{Ok, Err}
use Rattle.std.specs.Ordering.{nat_cmp, ordering_reverse, ordering_index, is_eq, is_lt}
use Rattle.std.specs.Cmp.Lexicographic.{slice_cmp}
use Rattle.std.specs.List.{HoldsAt}
use Rattle.std.specs.List.Sorted.{IsNonDecreasingBy, IsPartitionPoint, IsSearchInRange, IsBinarySearchResult}
use Rattle.std.specs.Str.{bytes_eq}
use Rattle.std.proofs.lemmas.Map.Text.{is_eq-slice_cmp}
use Rattle.member_roster.specs.Members.{is_before}
use Rattle.std.proofs.lemmas.Cmp.{nat_list_cmp_total}
use Rattle.member_roster.specs.Places.{IsBelowAll, Ascends, one_more, place_from, place_by}

abbrev pub cmp : List ℕ → List ℕ → Ordering
cmp = slice_cmp nat_cmp

pub greater : (a b : List ℕ) → cmp a b ≡ Less → cmp b a ≡ Greater
greater a b e = let t = nat_list_cmp_total in t.antisymm b a ∙ ap ordering_reverse e

pub less : (a b : List ℕ) → cmp a b ≡ Greater → cmp b a ≡ Less
less a b e = let t = nat_list_cmp_total in t.antisymm b a ∙ ap ordering_reverse e

-- what is after an element of this node is after the node
pub after_equal : (a b node : List ℕ) → cmp a node ≡ Equal → cmp a b ≡ Less → cmp b node ≡ Greater
after_equal a b node f e = let t = nat_list_cmp_total in greater node b (sym (t.congr a node b f) ∙ e)

pub after_greater : (a b node : List ℕ) → cmp a node ≡ Greater → cmp a b ≡ Less → cmp b node ≡ Greater
after_greater a b node f e = let t = nat_list_cmp_total in greater node b (t.trans node a b (less a node f) e)

pub before_equal : (a b node : List ℕ) → cmp b node ≡ Equal → cmp a b ≡ Less → cmp a node ≡ Less
before_equal a b node f e = let t = nat_list_cmp_total in less node a (sym (t.congr b node a f) ∙ greater a b e)

raise : (a b node : List ℕ) → cmp a b ≡ Less → ordering_index (cmp a node) ≤ ordering_index (cmp b node)
raise a b node e = go (cmp a node) refl
  where
    go : (o : Ordering) → cmp a node ≡ o → ordering_index o ≤ ordering_index (cmp b node)
    go Less f = omega arith
    go Equal f = rw (after_equal a b node f e) (omega arith)
    go Greater f = rw (after_greater a b node f e) (omega arith)

pub below_at : {X : Type 0} (key : X → List ℕ) (node : List ℕ) (xs : List X) (j : ℕ) (d : X) → IsBelowAll key node xs → j < length xs → cmp node (key (get_or xs j d)) ≡ Less
below_at key node [] j d b lt = absurd (omega arith)
below_at key node (x ∷ xs) zero d b lt = b.0
below_at key node (x ∷ xs) (suc j) d b lt = below_at key node xs j d b.1 (omega arith)

rises : {X : Type 0} (key : X → List ℕ) (node : List ℕ) (xs : List X) → Ascends key xs → IsNonDecreasingBy (λ y. ordering_index (cmp (key y) node)) xs
rises key node [] a i j d le lt = absurd (omega arith)
rises key node (x ∷ xs) a zero zero d le lt = omega arith
rises key node (x ∷ xs) a zero (suc j) d le lt = raise (key x) (key (get_or xs j d)) node (below_at key (key x) xs j d a.0 (omega arith))
rises key node (x ∷ xs) a (suc i) zero d le lt = absurd (omega arith)
rises key node (x ∷ xs) a (suc i) (suc j) d le lt = rises key node xs a.1 i j d (omega arith) (omega arith)

pub found : {X : Type 0} (key : X → List ℕ) (node : List ℕ) (xs : List X) (i : ℕ) → Ascends key xs → i < length xs → HoldsAt (λ y. cmp (key y) node ≡ Equal) xs i → place_by key node xs ≡ Ok i
found key node [] i a lt h = absurd (omega arith)
found key node (x ∷ xs) zero a lt h = let e : cmp (key x) node ≡ Equal = h x in rw e refl
found key node (x ∷ xs) (suc i) a lt h =
    let y = get_or xs i x in
    let e : cmp (key x) node ≡ Less = before_equal (key x) (key (get_or xs i x)) node (h x) (below_at key (key x) xs i x a.0 (omega arith)) in
    rw e (ap one_more (found key node xs i a.1 (omega arith) (λ d. h d)))

missing : {X : Type 0} (key : X → List ℕ) (node : List ℕ) (xs : List X) (i : ℕ) → i ≤ length xs → IsPartitionPoint (λ y. cmp (key y) node ≡ Less) (λ y. cmp (key y) node ≡ Greater) xs i → place_by key node xs ≡ Err i
missing key node [] zero le p = refl
missing key node [] (suc i) le p = absurd (omega arith)
missing key node (x ∷ xs) zero le p = let e : cmp (key x) node ≡ Greater = p.1 0 x (omega arith) (omega arith) in rw e refl
missing key node (x ∷ xs) (suc i) le p =
    let e : cmp (key x) node ≡ Less = p.0 0 x (omega arith) (omega arith) in
    rw e (ap one_more (missing key node xs i (omega arith) (λ k d l u. p.0 (suc k) d (omega arith) (omega arith), λ k d l u. p.1 (suc k) d (omega arith) (omega arith))))

-- a binary search finds the place
pub placed : {X : Type 0} (key : X → List ℕ) (node : List ℕ) (xs : List X) (r : Result ℕ ℕ) → Ascends key xs → IsSearchInRange r (length xs) → IsBinarySearchResult (λ y. cmp (key y) node) xs r → r ≡ place_by key node xs
placed key node xs (Ok i) a within h = sym (found key node xs i a within h)
placed key node xs (Err i) a within h = sym (missing key node xs i within (h (rises key node xs a)))

-- ---- what a comparison says of the tests of the definitions

pub back : (a b : List ℕ) (o : Ordering) → cmp a b ≡ o → cmp b a ≡ ordering_reverse o
back a b o e = let t = nat_list_cmp_total in t.antisymm b a ∙ ap ordering_reverse e

pub same_texts : (a b : List ℕ) (o : Ordering) → cmp a b ≡ o → bytes_eq b a ≡ is_eq (ordering_reverse o)
same_texts a b o e = sym (is_eq-slice_cmp b a) ∙ ap is_eq (back a b o e)

pub before_texts : (a b : List ℕ) (o : Ordering) → cmp a b ≡ o → is_before b a ≡ is_lt (ordering_reverse o)
before_texts a b o e = ap is_lt (back a b o e)

-- ---- one step of the search

pub one_more-Ok : (r : Result ℕ ℕ) (i : ℕ) → one_more r ≡ Ok i → (j : ℕ) × (r ≡ Ok j) × (i ≡ suc j)
one_more-Ok (Ok j) i p = (j, refl, cc)
one_more-Ok (Err j) i p = absurd (cc)

pub one_more-Err : (r : Result ℕ ℕ) (i : ℕ) → one_more r ≡ Err i → (j : ℕ) × (r ≡ Err j) × (i ≡ suc j)
one_more-Err (Ok j) i p = absurd (cc)
one_more-Err (Err j) i p = (j, refl, cc)

-- nothing after a greater node is the node
pub none_after : {X : Type 0} (key : X → List ℕ) (first node : List ℕ) (xs : List X) → cmp first node ≡ Greater → IsBelowAll key first xs → place_by key node xs ≡ Err 0
none_after key first node [] e b = refl
none_after key first node (x ∷ xs) e b = rw (after_greater first (key x) node e b.0) refl

-- the place at which an element would be inserted is within the list
pub err_within : {X : Type 0} (key : X → List ℕ) (node : List ℕ) (xs : List X) (i : ℕ) → place_by key node xs ≡ Err i → i ≤ length xs
err_within key node [] i p = let z : i ≡ 0 = cc in rw z (omega arith)
err_within key node (x ∷ xs) i p = go (cmp (key x) node) (λ j q. err_within key node xs j q) i p
  where
    go : (o : Ordering) → ((j : ℕ) → place_by key node xs ≡ Err j → j ≤ length xs) → (i : ℕ) → place_from o (place_by key node xs) ≡ Err i → i ≤ length (x ∷ xs)
    go Less ih i p = let h = one_more-Err (place_by key node xs) i p in let l = ih h.0 h.1 in rw h.2 (omega arith)
    go Equal ih i p = absurd (cc)
    go Greater ih i p = let z : i ≡ 0 = cc in rw z (omega arith)

pub ok_within : {X : Type 0} (key : X → List ℕ) (node : List ℕ) (xs : List X) (i : ℕ) → place_by key node xs ≡ Ok i → i < length xs
ok_within key node [] i p = absurd (cc)
ok_within key node (x ∷ xs) i p = go (cmp (key x) node) (λ j q. ok_within key node xs j q) i p
  where
    go : (o : Ordering) → ((j : ℕ) → place_by key node xs ≡ Ok j → j < length xs) → (i : ℕ) → place_from o (place_by key node xs) ≡ Ok i → i < length (x ∷ xs)
    go Less ih i p = let h = one_more-Ok (place_by key node xs) i p in let l = ih h.0 h.1 in rw h.2 (omega arith)
    go Equal ih i p = let z : i ≡ 0 = cc in rw z (omega arith)
    go Greater ih i p = absurd (cc)
