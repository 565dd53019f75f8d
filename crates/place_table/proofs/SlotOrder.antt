-- Kept points in order of place, then of their hosts' numbers, are points in order.
use Rattle.std.specs.Prelude.{◌≡◌, ℕ, ◌+◌, ◌<◌, List, [], ◌∷◌, length, map, Some, slice_get, All, IsPermutation, IsSorted, zero, suc}
use Rattle.std.proofs.Common.{sym, ◌∙◌, ap, subst, arith, get_or}
use Rattle.std.specs.declared.cmp.Ordering.TheVariants.{Less, Greater}
use Rattle.std.specs.Ordering.{nat_cmp, is_lt, ordering_then, ordering_reverse}
use Rattle.std.specs.Cmp.{IsStrictWeakOrder, IsTotalOrder}
use Rattle.std.specs.Cmp.Lexicographic.{slice_cmp}
use Rattle.std.specs.List.Sorted.{IsStrictlySortedBy}
use Rattle.std.proofs.lemmas.Cmp.{nat_cmp_total, nat_list_cmp_total, on_total, then_total, tied_itself}
use Rattle.std.proofs.lemmas.List.{get_or-map, length-map}
use Rattle.std.proofs.lemmas.List.Elements.{All-nil}
use Rattle.std.proofs.lemmas.List.MinMax.{ranks_by}
use Rattle.std.proofs.lemmas.List.Sorted.{IsPermutation-refl, IsPermutation-map, IsPermutation-sym, All-permutation, Contains-permutation, length_permutation}
use Rattle.std.proofs.lemmas.Option.{slice_get-get_or}
use Rattle.place_table.specs.declared.point.Point.{Point}
use Rattle.place_table.specs.declared.host.HostInfo.{HostInfo}
use Rattle.place_table.specs.declared.table.Slot.{Slot}
use Rattle.place_table.specs.declared.table.TypeRing.{TypeRing}
use Rattle.place_table.specs.Ring.{point_cmp, owner_point}
use Rattle.place_table.specs.Hosts.{node_of, node_cmp, ring_points}
use Rattle.place_table.specs.Tables.{IsNodeSorted, slot_point, slot_cmp, next_slot, kept_slots, found_node, IsListOf, IsRingOf, IsTableKept}
use Rattle.place_table.proofs.Moves.{owner_same}
use Rattle.place_table.proofs.PointSearch.{owner_next, next_holds}
use Rattle.place_table.proofs.TableOwners.{later_at}
use Rattle.std.specs.Prelude.{None, option_map}

pub slot_cmp_total : IsTotalOrder slot_cmp
slot_cmp_total = then_total (on_total (λ (s : Slot). s.place) nat_cmp_total) (on_total (λ (s : Slot). s.host) nat_cmp_total)

pub slot_order : IsStrictWeakOrder (λ (a b : Slot). is_lt (slot_cmp a b))
slot_order = ranks_by slot_cmp_total (λ (s : Slot). s)

-- ---- hosts by number and by node

zero_first : (j : ℕ) → nat_cmp 0 (suc j) ≡ Less
zero_first j = grind arith

zero_last : (i : ℕ) → nat_cmp (suc i) 0 ≡ Greater
zero_last i = grind arith

both_more : (i j : ℕ) → nat_cmp (suc i) (suc j) ≡ nat_cmp i j
both_more i j = grind arith

after_first : (x : HostInfo) (xs : List HostInfo) (j : ℕ) → IsNodeSorted (x ∷ xs) → j < length xs → slice_cmp nat_cmp (node_of x) (found_node (slice_get xs j)) ≡ Less
unfolding IsStrictlySortedBy
after_first x xs j sorted within =
    let e : slice_get xs j ≡ Some (get_or xs j x) = slice_get-get_or xs j x within in
    ap (λ o. slice_cmp nat_cmp (node_of x) (found_node o)) e ∙ later_at (λ y. node_cmp x y ≡ Less) xs j (get_or xs j x) sorted.0 e

-- if hosts are in byte order of node, their numbers are in the order of the nodes
pub number_cmp : (hosts : List HostInfo) (i j : ℕ) → IsNodeSorted hosts → i < length hosts → j < length hosts → slice_cmp nat_cmp (found_node (slice_get hosts i)) (found_node (slice_get hosts j)) ≡ nat_cmp i j
unfolding IsStrictlySortedBy
number_cmp [] i j sorted below within = absurd (omega arith)
number_cmp (x ∷ xs) zero zero sorted below within = tied_itself nat_list_cmp_total (node_of x)
number_cmp (x ∷ xs) zero (suc j) sorted below within = after_first x xs j sorted (omega arith) ∙ sym (zero_first j)
number_cmp (x ∷ xs) (suc i) zero sorted below within =
    nat_list_cmp_total.antisymm (found_node (slice_get xs i)) (node_of x) ∙ ap ordering_reverse (after_first x xs i sorted (omega arith)) ∙ sym (zero_last i)
number_cmp (x ∷ xs) (suc i) (suc j) sorted below within =
    let first : i < length xs = omega arith in
    let second : j < length xs = omega arith in
    number_cmp xs i j sorted.1 first second ∙ sym (both_more i j)

slots_cmp : (hosts : List HostInfo) (a b : Slot) → IsNodeSorted hosts → a.host < length hosts → b.host < length hosts → point_cmp (slot_point hosts a) (slot_point hosts b) ≡ slot_cmp a b
slots_cmp hosts a b sorted first second = ap (ordering_then (nat_cmp a.place b.place)) (number_cmp hosts a.host b.host sorted first second)

-- ---- sorted points

pub no_slot : Slot
no_slot = record { place = 0; host = 0 }

pub points_sorted : (hosts : List HostInfo) (slots : List Slot) → IsNodeSorted hosts → All (λ (s : Slot). s.host < length hosts) slots → IsSorted slot_cmp slots → IsSorted point_cmp (map (slot_point hosts) slots)
points_sorted hosts slots sorted numbers up k d low next =
    let f : Slot → Point = slot_point hosts in
    let n : length (map f slots) ≡ length slots = length-map slots f in
    let within : k + 1 < length slots = omega (arith, next) in
    let inside : k < length slots = omega arith in
    let a : Slot = get_or slots k no_slot in
    let b : Slot = get_or slots (k + 1) no_slot in
    let same : is_lt (point_cmp (get_or (map f slots) (k + 1) d) (get_or (map f slots) k d)) ≡ is_lt (point_cmp (f b) (f a)) = λ i. is_lt (point_cmp (get_or-map f slots (k + 1) no_slot d within i) (get_or-map f slots k no_slot d inside i)) in
    same ∙ ap is_lt (slots_cmp hosts b a sorted (numbers (k + 1) no_slot within) (numbers k no_slot inside)) ∙ up k no_slot low within

pub sorted_ring : (hosts : List HostInfo) (kind : List ℕ) (listed slots : List Slot) → IsNodeSorted hosts → IsListOf hosts kind listed → IsPermutation listed slots → IsSorted slot_cmp slots → IsRingOf hosts kind slots
sorted_ring hosts kind listed slots order list same up =
    let numbers : All (λ (s : Slot). s.host < length hosts) slots = All-permutation (λ (s : Slot). s.host < length hosts) listed slots same list.numbers in
    record {
      points = subst (λ (ps : List Point). IsPermutation ps (map (slot_point hosts) slots)) list.points (IsPermutation-map (slot_point hosts) listed slots same);
      ordered = points_sorted hosts slots order numbers up;
      numbers = numbers;
    }

nothing_sorted : IsSorted point_cmp []
nothing_sorted k d low next = absurd (let z : k + 1 < 0 = next in omega arith)

pub empty_ring : (hosts : List HostInfo) (kind : List ℕ) → ring_points hosts kind ≡ [] → IsRingOf hosts kind []
empty_ring hosts kind e = record {
  points = subst (λ (ps : List Point). IsPermutation ps []) (sym e) (IsPermutation-refl []);
  ordered = nothing_sorted;
  numbers = All-nil (λ (s : Slot). s.host < length hosts);
}

-- ---- the owner among the kept points

pub kept_ring : (hosts : List HostInfo) (rings : List TypeRing) (kind : List ℕ) (slots : List Slot) → IsTableKept hosts rings → slots ≡ kept_slots kind rings → IsRingOf hosts kind slots
kept_ring hosts rings kind slots kept e = subst (λ (ss : List Slot). IsRingOf hosts kind ss) (sym e) (kept.kept kind)

pub next_number : (hosts : List HostInfo) (kind : List ℕ) (slots : List Slot) (place : ℕ) (slot : Slot) → IsRingOf hosts kind slots → Some slot ≡ next_slot slots place → slot.host < length hosts
next_number hosts kind slots place slot ring e = next_holds (λ (s : Slot). s.host < length hosts) slots place slot ring.numbers e

pub ring_length : (hosts : List HostInfo) (kind : List ℕ) (slots : List Slot) → IsRingOf hosts kind slots → length slots ≡ length (ring_points hosts kind)
ring_length hosts kind slots ring = sym (length-map slots (slot_point hosts)) ∙ length_permutation (ring_points hosts kind) (map (slot_point hosts) slots) ring.points

ring_owner : (hosts : List HostInfo) (kind : List ℕ) (slots : List Slot) (place : ℕ) → IsRingOf hosts kind slots → option_map (slot_point hosts) (next_slot slots place) ≡ owner_point (ring_points hosts kind) place
ring_owner hosts kind slots place ring =
    let ps = ring_points hosts kind in
    let qs : List Point = map (slot_point hosts) slots in
    owner_next hosts slots place ring.ordered
    ∙ sym (owner_same ps qs place (λ p m. Contains-permutation ps qs p ring.points m) (λ p m. Contains-permutation qs ps p (IsPermutation-sym ps qs ring.points) m))

pub some_point : (hosts : List HostInfo) (kind : List ℕ) (slots : List Slot) (place n : ℕ) (slot : Slot) → IsRingOf hosts kind slots → place ≡ n → Some slot ≡ next_slot slots place → Some (slot_point hosts slot) ≡ owner_point (ring_points hosts kind) n
some_point hosts kind slots place n slot ring same e = ap (option_map (slot_point hosts)) e ∙ ring_owner hosts kind slots place ring ∙ ap (owner_point (ring_points hosts kind)) same

pub none_point : (hosts : List HostInfo) (kind : List ℕ) (slots : List Slot) (place n : ℕ) → IsRingOf hosts kind slots → place ≡ n → None ≡ next_slot slots place → None ≡ owner_point (ring_points hosts kind) n
none_point hosts kind slots place n ring same e = ap (option_map (slot_point hosts)) e ∙ ring_owner hosts kind slots place ring ∙ ap (owner_point (ring_points hosts kind)) same
