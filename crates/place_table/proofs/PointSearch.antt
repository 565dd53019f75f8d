-- In points in order, the owner of a place is the first one at or after it, or else the first of all.
use Rattle.std.specs.Prelude.{◌≡◌, ℕ, ◌+◌, ◌<◌, ◌≤◌, Bool, true, false, nat_le, nat_lt, if◌then◌else◌, List, [], ◌∷◌, length, map, Option, Some, None, option_map, slice_get, filter, All, Contains, MatchOption, IfSome, IsSorted, suc, ⊤}
use Rattle.std.proofs.Common.{refl, sym, ◌∙◌, ap, subst, true≢false, arith, get_or, add-one}
use Rattle.std.specs.List.{find}
use Rattle.std.specs.List.Sorted.{IsNonDecreasingBy}
use Rattle.std.specs.Option.{option_or}
use Rattle.std.specs.declared.cmp.Ordering.{Ordering}
use Rattle.std.specs.Ordering.{is_lt}
use Rattle.std.specs.Cmp.{IsStrictWeakOrder}
use Rattle.std.proofs.lemmas.List.{get_or-map, length-map}
use Rattle.std.proofs.lemmas.List.Elements.{All-head, All-tail}
use Rattle.std.proofs.lemmas.List.MinMax.{ranks_by}
use Rattle.std.proofs.lemmas.List.Sorted.{sorted_far}
use Rattle.std.proofs.lemmas.Option.{slice_get-map}
use Rattle.place_table.specs.declared.point.Point.{Point}
use Rattle.place_table.specs.declared.host.HostInfo.{HostInfo}
use Rattle.place_table.specs.declared.table.Slot.{Slot}
use Rattle.place_table.specs.Ring.{point_cmp, is_before, lesser, least, first_of, owner_point, IsLeast}
use Rattle.place_table.specs.Tables.{slot_point, next_slot}
use Rattle.place_table.proofs.PointOrder.{point_cmp_total}
use Rattle.place_table.proofs.Owners.{least_cases, Contains-from_filter}

pub point_order : IsStrictWeakOrder is_before
point_order = ranks_by point_cmp_total (λ (p : Point). p)

-- no point is before an earlier one
abbrev pub IsRising : List Point → Type 0
IsRising [] = ⊤
IsRising (p ∷ ps) = ((q : Point) → Contains ps q → is_before q p ≡ false) × IsRising ps

pub sorted_rest : {X : Type 0} (cmp : X → X → Ordering) (x : X) (xs : List X) → IsSorted cmp (x ∷ xs) → IsSorted cmp xs
sorted_rest cmp x xs up k d low next =
    let more : (k + 1) + 1 < length (x ∷ xs) = omega arith in
    let e = up (k + 1) d (omega arith) more in
    let after : is_lt (cmp (get_or (x ∷ xs) (suc (k + 1)) d) (get_or (x ∷ xs) (suc k) d)) ≡ false = subst (λ (p : ℕ × ℕ). is_lt (cmp (get_or (x ∷ xs) p.0 d) (get_or (x ∷ xs) p.1 d)) ≡ false) (λ i. (add-one (k + 1) i, add-one k i)) e in
    after

none_before : (p : Point) (ps : List Point) → IsSorted point_cmp (p ∷ ps) → (q : Point) → Contains ps q → is_before q p ≡ false
none_before p ps up q m =
    let within : m.0 < length ps = m.1 in
    let far : is_before (get_or ps m.0 q) p ≡ false = sorted_far is_before point_order (p ∷ ps) up 0 (suc m.0) q (omega arith) (omega arith) in
    subst (λ (x : Point). is_before x p ≡ false) m.2 far

pub rising_from_sorted : (ps : List Point) → IsSorted point_cmp ps → IsRising ps
rising_from_sorted [] up = tt
rising_from_sorted (p ∷ ps) up = (none_before p ps up, rising_from_sorted ps (sorted_rest point_cmp p ps up))

first_case : (p : Point) (ps : List Point) → ((q : Point) → Contains ps q → is_before q p ≡ false) → (o : Option Point) → MatchOption o (ps ≡ []) (IsLeast ps) → lesser p o ≡ Some p
first_case p ps later None h = refl
first_case p ps later (Some q) h = ap (λ b. if b then Some q else Some p) (later q h.among)

least_first : (p : Point) (ps : List Point) → ((q : Point) → Contains ps q → is_before q p ≡ false) → lesser p (least ps) ≡ Some p
least_first p ps later = first_case p ps later (least ps) (least_cases ps)

first_least : (ps : List Point) → IsRising ps → least ps ≡ slice_get ps 0
first_least [] up = refl
first_least (p ∷ ps) up = least_first p ps up.0

find_least : (test : Point → Bool) (ps : List Point) → IsRising ps → least (filter test ps) ≡ find test ps
find_least test [] up = refl
find_least test (p ∷ ps) up =
    elim (test p) as (λ b. least (if b then p ∷ filter test ps else filter test ps) ≡ (if b then Some p else find test ps)) [
      | true ↦ least_first p (filter test ps) (λ q m. up.0 q (Contains-from_filter test ps q m).0)
      | false ↦ find_least test ps up.1
    ]

-- the first of the points at or after the place, or else the first of all
abbrev next_point : List Point → ℕ → Option Point
next_point points place = first_of (find (λ p. nat_le place p.place) points) (slice_get points 0)

owner_found : (points : List Point) (place : ℕ) → IsSorted point_cmp points → owner_point points place ≡ next_point points place
owner_found points place sorted =
    let up = rising_from_sorted points sorted in
    ap (λ o. first_of o (least points)) (find_least (λ (p : Point). nat_le place p.place) points up)
    ∙ ap (first_of (find (λ (p : Point). nat_le place p.place) points)) (first_least points up)

-- ---- the same over the kept points

find_mapped : (hosts : List HostInfo) (place : ℕ) (slots : List Slot) → option_map (slot_point hosts) (find (λ (s : Slot). nat_le place s.place) slots) ≡ find (λ (p : Point). nat_le place p.place) (map (slot_point hosts) slots)
find_mapped hosts place [] = refl
find_mapped hosts place (s ∷ ss) =
    elim (nat_le place s.place) as (λ b. option_map (slot_point hosts) (if b then Some s else find (λ (x : Slot). nat_le place x.place) ss) ≡ (if b then Some (slot_point hosts s) else find (λ (p : Point). nat_le place p.place) (map (slot_point hosts) ss))) [
      | true ↦ refl
      | false ↦ find_mapped hosts place ss
    ]

or_mapped : (f : Slot → Point) (a b : Option Slot) → option_map f (option_or a b) ≡ first_of (option_map f a) (option_map f b)
or_mapped f None b = refl
or_mapped f (Some s) b = refl

next_mapped : (hosts : List HostInfo) (slots : List Slot) (place : ℕ) → option_map (slot_point hosts) (next_slot slots place) ≡ next_point (map (slot_point hosts) slots) place
next_mapped hosts slots place =
    or_mapped (slot_point hosts) (find (λ (s : Slot). nat_le place s.place) slots) (slice_get slots 0)
    ∙ ap (λ o. first_of o (option_map (slot_point hosts) (slice_get slots 0))) (find_mapped hosts place slots)
    ∙ ap (first_of (find (λ (p : Point). nat_le place p.place) (map (slot_point hosts) slots))) (sym (slice_get-map (slot_point hosts) slots 0))

-- in kept points in order, the next one owns the place
pub owner_next : (hosts : List HostInfo) (slots : List Slot) (place : ℕ) → IsSorted point_cmp (map (slot_point hosts) slots) → option_map (slot_point hosts) (next_slot slots place) ≡ owner_point (map (slot_point hosts) slots) place
owner_next hosts slots place sorted = next_mapped hosts slots place ∙ sym (owner_found (map (slot_point hosts) slots) place sorted)

-- ---- what holds of all kept points holds of the next one

find_holds : (P : Slot → Type 0) (test : Slot → Bool) (slots : List Slot) → All P slots → IfSome (find test slots) P
find_holds P test [] all = tt
find_holds P test (s ∷ ss) all =
    elim (test s) as (λ b. IfSome (if b then Some s else find test ss) P) [
      | true ↦ All-head P s ss all
      | false ↦ find_holds P test ss (All-tail P s ss all)
    ]

first_holds : (P : Slot → Type 0) (slots : List Slot) → All P slots → IfSome (slice_get slots 0) P
first_holds P [] all = tt
first_holds P (s ∷ ss) all = All-head P s ss all

or_holds : (P : Slot → Type 0) (a b : Option Slot) → IfSome a P → IfSome b P → IfSome (option_or a b) P
or_holds P None b h k = k
or_holds P (Some s) b h k = h

pub next_holds : (P : Slot → Type 0) (slots : List Slot) (place : ℕ) (slot : Slot) → All P slots → Some slot ≡ next_slot slots place → P slot
next_holds P slots place slot all e =
    subst (λ (o : Option Slot). IfSome o P) (sym e)
    (or_holds P (find (λ (s : Slot). nat_le place s.place) slots) (slice_get slots 0) (find_holds P (λ (s : Slot). nat_le place s.place) slots all) (first_holds P slots all))

-- ---- places of points in order

place_le : (p q : Point) → is_before q p ≡ false → p.place ≤ q.place
place_le p q e =
    elim (nat_lt q.place p.place) as (λ b. nat_lt q.place p.place ≡ b → p.place ≤ q.place) [
      | true ↦ λ t. absurd (true≢false (sym (before_by_place p q t) ∙ e))
      | false ↦ λ f. grind arith
    ] refl
  where
    before_by_place : (p q : Point) → nat_lt q.place p.place ≡ true → is_before q p ≡ true
    before_by_place p q t = rw t

pub places_rise : (hosts : List HostInfo) (slots : List Slot) → IsSorted point_cmp (map (slot_point hosts) slots) → IsNonDecreasingBy (λ (s : Slot). s.place) slots
places_rise hosts slots up i j d low high =
    let f : Slot → Point = slot_point hosts in
    let n : length (map f slots) ≡ length slots = length-map slots f in
    let inside : i < length slots = omega arith in
    let within : j < length (map f slots) = omega arith in
    let far : is_before (get_or (map f slots) j (f d)) (get_or (map f slots) i (f d)) ≡ false = sorted_far is_before point_order (map f slots) up i j (f d) low within in
    let same : is_before (f (get_or slots j d)) (f (get_or slots i d)) ≡ is_before (get_or (map f slots) j (f d)) (get_or (map f slots) i (f d)) = λ k. is_before (sym (get_or-map f slots j d (f d) high) k) (sym (get_or-map f slots i d (f d) inside) k) in
    place_le (f (get_or slots i d)) (f (get_or slots j d)) (same ∙ far)
