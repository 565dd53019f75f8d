-- Hosts in byte order of node are in one order.
use Rattle.std.proofs.Common.{◌≡◌, ℕ, ◌<◌, List, [], ◌∷◌, length, get_or, refl, sym, ap, ◌∙◌, subst, inl, inr, arith}
use Rattle.std.specs.Prelude.{zero, suc, IsPermutation, Contains}
use Rattle.std.specs.declared.cmp.Ordering.TheVariants.{Less, Greater}
use Rattle.std.specs.Ordering.{ordering_reverse}
use Rattle.std.specs.List.{AllByRecursion}
use Rattle.std.specs.List.Sorted.{IsStrictlySortedBy}
use Rattle.std.proofs.lemmas.Cmp.{nat_list_cmp_total}
use Rattle.std.proofs.lemmas.List.Sorted.{IsPermutation-sym, Contains-permutation}
use Rattle.place_table.specs.declared.host.HostInfo.{HostInfo}
use Rattle.place_table.specs.Hosts.{node_cmp}
use Rattle.place_table.specs.Tables.{IsNodeSorted}
use Rattle.turn_core.specs.CellSound.{In}
use Rattle.member_roster.specs.Places.{host_node, IsBelowAll, Ascends}

below_all : (x : HostInfo) (ys : List HostInfo) → AllByRecursion (λ y. node_cmp x y ≡ Less) ys → IsBelowAll host_node (host_node x) ys
below_all x [] h = tt
below_all x (y ∷ ys) h = (h.0, below_all x ys h.1)

ascends : (xs : List HostInfo) → IsNodeSorted xs → Ascends host_node xs
unfolding IsStrictlySortedBy
ascends [] h = tt
ascends (x ∷ xs) h = (below_all x xs h.0, ascends xs h.1)

below_one : (x z : HostInfo) (ys : List HostInfo) → IsBelowAll host_node (host_node x) ys → In z ys → node_cmp x z ≡ Less
below_one x z (y ∷ ys) h (inl e) = subst (λ (w : HostInfo). node_cmp x w ≡ Less) (sym e) h.0
below_one x z (y ∷ ys) h (inr j) = below_one x z ys h.1 j
below_one x z [] h i = absurd i

apart : (x y : HostInfo) → node_cmp x y ≡ Less → node_cmp y x ≡ Less → ⊥
apart x y e f = (let t = nat_list_cmp_total in let g : Less ≡ Greater = sym f ∙ t.antisymm (host_node y) (host_node x) ∙ ap ordering_reverse e in cc)

same_order : (xs ys : List HostInfo) → Ascends host_node xs → Ascends host_node ys → ((z : HostInfo) → In z xs → In z ys) → ((z : HostInfo) → In z ys → In z xs) → xs ≡ ys
same_order [] [] a b f g = refl
same_order [] (y ∷ ys) a b f g = absurd (g y (inl refl))
same_order (x ∷ xs) [] a b f g = absurd (f x (inl refl))
same_order (x ∷ xs) (y ∷ ys) a b f g =
    let same : x ≡ y = elim (f x (inl refl)) [
      | inl e ↦ e
      | inr j ↦ elim (g y (inl refl)) [ inl e ↦ sym e | inr k ↦ absurd (apart x y (below_one x y xs a.0 k) (below_one y x ys b.0 j)) ]
    ] in
    let there : (z : HostInfo) → In z xs → In z ys = λ z i. elim (f z (inr i)) [
      | inl e ↦ absurd (let less = below_one x z xs a.0 i in let own = subst (λ (w : HostInfo). node_cmp x w ≡ Less) (e ∙ sym same) less in apart x x own own)
      | inr j ↦ j
    ] in
    let back : (z : HostInfo) → In z ys → In z xs = λ z i. elim (g z (inr i)) [
      | inl e ↦ absurd (let less = below_one y z ys b.0 i in let own = subst (λ (w : HostInfo). node_cmp y w ≡ Less) (e ∙ same) less in apart y y own own)
      | inr j ↦ j
    ] in
    (λ i. same i ∷ same_order xs ys a.1 b.1 there back i)

to_contains : (z : HostInfo) (xs : List HostInfo) → In z xs → Contains xs z
to_contains z (x ∷ xs) (inl e) = (0, omega arith, sym e)
to_contains z (x ∷ xs) (inr j) = (let h = to_contains z xs j in (suc h.0, (let l = h.1 in omega arith), h.2))
to_contains z [] i = absurd i

from_contains : (z : HostInfo) (xs : List HostInfo) (k : ℕ) → k < length xs → get_or xs k z ≡ z → In z xs
from_contains z [] k l e = absurd (omega arith)
from_contains z (x ∷ xs) zero l e = inl (sym e)
from_contains z (x ∷ xs) (suc k) l e = inr (from_contains z xs k (omega arith) e)

in_permuted : (xs ys : List HostInfo) → IsPermutation xs ys → (z : HostInfo) → In z xs → In z ys
in_permuted xs ys p z i = (let h = Contains-permutation xs ys z p (to_contains z xs i) in from_contains z ys h.0 h.1 h.2)

-- hosts in order that are the given ones are in the given order
pub hosts_in_order : (given built : List HostInfo) → Ascends host_node given → IsNodeSorted built → IsPermutation given built → built ≡ given
hosts_in_order given built a b p = sym (same_order given built a (ascends built b) (in_permuted given built p) (in_permuted built given (IsPermutation-sym given built p)))
