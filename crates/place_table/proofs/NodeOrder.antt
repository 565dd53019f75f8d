-- Hosts of distinct nodes that are sorted by node are in strictly ascending order.
use Rattle.std.specs.Prelude.{◌≡◌, ℕ, ◌+◌, ◌<◌, ◌≤◌, Bool, true, false, ◌||◌, if◌then◌else◌, List, [], ◌∷◌, ◌++◌, length, All, Option, Some, None, sum_by, IsPermutation, IsSorted, nat_lt}
use Rattle.std.proofs.Common.{refl, sym, ◌∙◌, ap, subst, true≢false, arith, get_or, is_some, append-nil, append_assoc, add-one, suc}
use Rattle.std.proofs.lemmas.List.Elements.{All-head, All-tail}
use Rattle.std.specs.declared.cmp.Ordering.{Ordering}
use Rattle.std.specs.declared.cmp.Ordering.TheVariants.{Less, Equal, Greater}
use Rattle.std.specs.Ordering.{is_lt, ordering_reverse}
use Rattle.std.specs.Cmp.{IsStrictWeakOrder, IsTotalOrder}
use Rattle.std.specs.FinMap.{nat_cmp-IsAntisymmetric, slice_cmp-IsAntisymmetric}
use Rattle.std.specs.List.{list_any, AllByRecursion}
use Rattle.std.specs.List.Sorted.{IsStrictlySortedBy}
use Rattle.std.specs.Str.{bytes_eq}
use Rattle.std.proofs.lemmas.Cmp.{nat_list_cmp_total, on_total}
use Rattle.std.proofs.lemmas.List.MinMax.{ranks_by}
use Rattle.std.proofs.lemmas.List.Sorted.{sorted_far, sum_by-IsPermutation}
use Rattle.std.proofs.lemmas.List.Sums.{sum_by-append}
use Rattle.std.proofs.lemmas.Slice.Eq.{bytes_eq-Decides}
use Rattle.place_table.specs.declared.host.HostInfo.{HostInfo}
use Rattle.place_table.specs.declared.error.TableError.{TableError}
use Rattle.place_table.specs.declared.error.TableError.TheVariants.{TooManyMembers, SameNode}
use Rattle.place_table.specs.Hosts.{node_of, node_cmp, types_fault, same_node_fault, other_space_fault, first_fault, table_fault}
use Rattle.place_table.specs.Tables.{IsNodeSorted}

pub node_cmp_total : IsTotalOrder node_cmp
node_cmp_total = on_total node_of nat_list_cmp_total

pub node_order : IsStrictWeakOrder (λ (a b : HostInfo). is_lt (node_cmp a b))
node_order = ranks_by nat_list_cmp_total node_of

-- ---- how often a node stands in a list

abbrev pub one_if : Bool → ℕ
one_if true = 1
one_if false = 0

abbrev pub count_of : List ℕ → List HostInfo → ℕ
count_of node hosts = sum_by (λ h. one_if (bytes_eq (node_of h) node)) hosts

count_more : (node : List ℕ) (h : HostInfo) (hs : List HostInfo) → count_of node (h ∷ hs) ≡ one_if (bytes_eq (node_of h) node) + count_of node hs
count_more node h hs =
    let e = sum_by-append (λ x. one_if (bytes_eq (node_of x) node)) (h ∷ []) hs in
    omega (arith, e)

count_none : (node : List ℕ) (hosts : List HostInfo) → list_any (λ e. bytes_eq (node_of e) node) hosts ≡ false → count_of node hosts ≡ 0
count_none node [] e = refl
count_none node (h ∷ hs) e = count_more node h hs ∙ split (bytes_eq (node_of h) node) e (count_none node hs)
  where
    split : (b : Bool) → (b || list_any (λ x. bytes_eq (node_of x) node) hs) ≡ false → (list_any (λ x. bytes_eq (node_of x) node) hs ≡ false → count_of node hs ≡ 0) → one_if b + count_of node hs ≡ 0
    split true e more = absurd (true≢false e)
    split false e more = let z = more e in omega arith

-- no node is in the list twice
unfoldable pub IsDistinct : List HostInfo → Type 0
IsDistinct hosts = (node : List ℕ) → count_of node hosts ≤ 1

count_pushed : (node : List ℕ) (hosts : List HostInfo) (h : HostInfo) → count_of node (hosts ++ h ∷ []) ≡ count_of node hosts + one_if (bytes_eq (node_of h) node)
count_pushed node hosts h =
    let e = sum_by-append (λ x. one_if (bytes_eq (node_of x) node)) hosts (h ∷ []) in
    omega (arith, e)

pushed_distinct : (hosts : List HostInfo) (h : HostInfo) → list_any (λ e. bytes_eq (node_of e) (node_of h)) hosts ≡ false → IsDistinct hosts → IsDistinct (hosts ++ h ∷ [])
unfolding IsDistinct
pushed_distinct hosts h e distinct node = split (bytes_eq (node_of h) node) refl
  where
    split : (b : Bool) → bytes_eq (node_of h) node ≡ b → count_of node (hosts ++ h ∷ []) ≤ 1
    split true t =
        let same : node_of h ≡ node = (bytes_eq-Decides (node_of h) node).0 t in
        let none : count_of node hosts ≡ 0 = let P : List ℕ → Type 0 = λ n. count_of n hosts ≡ 0 in subst P same (count_none (node_of h) hosts e) in
        let one : one_if (bytes_eq (node_of h) node) ≡ 1 = ap one_if t in
        omega (arith, count_pushed node hosts h)
    split false t =
        let none : one_if (bytes_eq (node_of h) node) ≡ 0 = ap one_if t in
        omega (arith, count_pushed node hosts h, distinct node)

distinct_from : (earlier hosts : List HostInfo) → same_node_fault earlier hosts ≡ None → IsDistinct earlier → IsDistinct (earlier ++ hosts)
distinct_from earlier [] e distinct = subst (λ (hs : List HostInfo). IsDistinct hs) (sym (append-nil earlier)) distinct
distinct_from earlier (h ∷ hs) e distinct =
    split (λ f t. distinct_from (earlier ++ h ∷ []) hs f (pushed_distinct earlier h t distinct)) (list_any (λ x. bytes_eq (node_of x) (node_of h)) earlier) refl e
  where
    split : (same_node_fault (earlier ++ h ∷ []) hs ≡ None → list_any (λ x. bytes_eq (node_of x) (node_of h)) earlier ≡ false → IsDistinct ((earlier ++ h ∷ []) ++ hs)) → (b : Bool) → list_any (λ x. bytes_eq (node_of x) (node_of h)) earlier ≡ b → (if b then Some (SameNode (node_of h)) else same_node_fault (earlier ++ h ∷ []) hs) ≡ None → IsDistinct (earlier ++ h ∷ hs)
    split more true t f = absurd (true≢false (ap is_some f))
    split more false t f = subst (λ (xs : List HostInfo). IsDistinct xs) (append_assoc earlier (h ∷ []) hs) (more f t)

none_distinct : IsDistinct []
unfolding IsDistinct
none_distinct node = omega arith

second_none : (a b : Option TableError) → first_fault a b ≡ None → b ≡ None
second_none None b e = e
second_none (Some f) b e = absurd (true≢false (ap is_some e))

first_none : (a b : Option TableError) → first_fault a b ≡ None → a ≡ None
first_none None b e = refl
first_none (Some f) b e = absurd (true≢false (ap is_some e))

-- hosts from which a table is built have distinct nodes
pub nodes_allowed : (space : List ℕ) (hosts : List HostInfo) → table_fault space hosts ≡ None → same_node_fault [] hosts ≡ None
nodes_allowed space hosts e = split (nat_lt 256 (length hosts)) e
  where
    later : Option TableError
    later = first_fault (same_node_fault [] hosts) (other_space_fault space hosts)

    split : (b : Bool) → (if b then Some (TooManyMembers (length hosts)) else first_fault (types_fault hosts) later) ≡ None → same_node_fault [] hosts ≡ None
    split true f = absurd (true≢false (ap is_some f))
    split false f = first_none (same_node_fault [] hosts) (other_space_fault space hosts) (second_none (types_fault hosts) later f)

pub distinct_allowed : (hosts : List HostInfo) → same_node_fault [] hosts ≡ None → IsDistinct hosts
distinct_allowed hosts e = distinct_from [] hosts e none_distinct

pub distinct_permuted : (xs ys : List HostInfo) → IsPermutation xs ys → IsDistinct xs → IsDistinct ys
unfolding IsDistinct
distinct_permuted xs ys same distinct node =
    let e = sum_by-IsPermutation (λ h. one_if (bytes_eq (node_of h) node)) xs ys same in
    omega (arith, distinct node, e)

-- ---- from sorted to strictly rising

less_from : (x y : HostInfo) → is_lt (node_cmp y x) ≡ false → bytes_eq (node_of y) (node_of x) ≡ false → node_cmp x y ≡ Less
less_from x y later other = split (node_cmp x y) refl
  where
    split : (r : Ordering) → node_cmp x y ≡ r → r ≡ Less
    split Less e = refl
    split Equal e =
        let nodes : node_of x ≡ node_of y = slice_cmp-IsAntisymmetric nat_cmp-IsAntisymmetric (node_of x) (node_of y) e in
        absurd (true≢false (sym ((bytes_eq-Decides (node_of y) (node_of x)).1 (sym nodes)) ∙ other))
    split Greater e =
        let turned : node_cmp y x ≡ Less = node_cmp_total.antisymm y x ∙ ap ordering_reverse e in
        absurd (true≢false (sym (ap is_lt turned) ∙ later))

rises : (x : HostInfo) (xs : List HostInfo) → All (λ (y : HostInfo). is_lt (node_cmp y x) ≡ false) xs → count_of (node_of x) xs ≡ 0 → AllByRecursion (λ y. node_cmp x y ≡ Less) xs
rises x [] all none = tt
rises x (y ∷ ys) all none =
    split (rises x ys (All-tail (λ (z : HostInfo). is_lt (node_cmp z x) ≡ false) y ys all)) (bytes_eq (node_of y) (node_of x)) refl
  where
    split : (count_of (node_of x) ys ≡ 0 → AllByRecursion (λ z. node_cmp x z ≡ Less) ys) → (b : Bool) → bytes_eq (node_of y) (node_of x) ≡ b → AllByRecursion (λ z. node_cmp x z ≡ Less) (y ∷ ys)
    split more true t =
        let one : one_if (bytes_eq (node_of y) (node_of x)) ≡ 1 = ap one_if t in
        absurd (omega (arith, count_more (node_of x) y ys, none))
    split more false t =
        let rest : count_of (node_of x) ys ≡ 0 = omega (arith, count_more (node_of x) y ys, none) in
        (less_from x y (All-head (λ (z : HostInfo). is_lt (node_cmp z x) ≡ false) y ys all) t, more rest)

sorted_rest : (x : HostInfo) (xs : List HostInfo) → IsSorted node_cmp (x ∷ xs) → IsSorted node_cmp xs
sorted_rest x xs up k d low next =
    let more : (k + 1) + 1 < length (x ∷ xs) = omega arith in
    let e = up (k + 1) d (omega arith) more in
    let after : is_lt (node_cmp (get_or (x ∷ xs) (suc (k + 1)) d) (get_or (x ∷ xs) (suc k) d)) ≡ false = subst (λ (p : ℕ × ℕ). is_lt (node_cmp (get_or (x ∷ xs) p.0 d) (get_or (x ∷ xs) p.1 d)) ≡ false) (λ i. (add-one (k + 1) i, add-one k i)) e in
    after

distinct_rest : (x : HostInfo) (xs : List HostInfo) → IsDistinct (x ∷ xs) → IsDistinct xs
unfolding IsDistinct
distinct_rest x xs distinct node = omega (arith, distinct node, count_more node x xs)

none_later : (x : HostInfo) (xs : List HostInfo) → IsDistinct (x ∷ xs) → count_of (node_of x) xs ≡ 0
unfolding IsDistinct
none_later x xs distinct =
    let one : one_if (bytes_eq (node_of x) (node_of x)) ≡ 1 = ap one_if ((bytes_eq-Decides (node_of x) (node_of x)).1 refl) in
    omega (arith, distinct (node_of x), count_more (node_of x) x xs)

pub strictly_sorted : (hosts : List HostInfo) → IsSorted node_cmp hosts → IsDistinct hosts → IsNodeSorted hosts
unfolding IsStrictlySortedBy
strictly_sorted [] up distinct = tt
strictly_sorted (x ∷ xs) up distinct = (
  rises x xs (λ k d h. sorted_far (λ (a b : HostInfo). is_lt (node_cmp a b)) node_order (x ∷ xs) up 0 (suc k) d (omega arith) (omega arith)) (none_later x xs distinct),
  strictly_sorted xs (sorted_rest x xs up) (distinct_rest x xs distinct),
)
