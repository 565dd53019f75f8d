-- From the kept point that owns a place to the host that owns the actor.
use Rattle.std.specs.Prelude.{◌≡◌, ℕ, ◌<◌, Bool, true, false, ◌||◌, if◌then◌else◌, List, [], ◌∷◌, ◌++◌, length, Some, None, option_map, option_and_then, slice_get, suc, zero}
use Rattle.std.proofs.Common.{refl, sym, ◌∙◌, ap, subst, true≢false, arith, get_or, length-append, is_some}
use Rattle.std.specs.List.{list_any, AllByRecursion}
use Rattle.std.specs.List.Sorted.{IsStrictlySortedBy}
use Rattle.std.specs.Str.{bytes_eq}
use Rattle.std.specs.Ordering.{nat_cmp, is_lt}
use Rattle.std.specs.declared.cmp.Ordering.TheVariants.{Less, Equal}
use Rattle.std.specs.Cmp.Lexicographic.{slice_cmp}
use Rattle.std.proofs.lemmas.Cmp.{nat_list_cmp_total, tied_itself}
use Rattle.std.proofs.lemmas.List.{length-map}
use Rattle.std.proofs.lemmas.Option.{slice_get_read}
use Rattle.std.proofs.lemmas.Slice.Eq.{bytes_eq-Decides}
use Rattle.actor_names.specs.declared.actor_key.ActorKey.{ActorKey}
use Rattle.place_table.specs.declared.point.Point.{Point}
use Rattle.place_table.specs.declared.host.HostInfo.{HostInfo}
use Rattle.place_table.specs.declared.table.Slot.{Slot}
use Rattle.place_table.specs.Ring.{owner_point, IsOwner}
use Rattle.place_table.specs.Hosts.{node_of, node_cmp, serves, node_places, node_points, point_at, ring_points, owner_of, host_of, key_place}
use Rattle.place_table.specs.Tables.{IsNodeSorted, slot_point, found_node}
use Rattle.place_table.proofs.Picks.{owner_from_some, empty_from_none}

-- ---- a host found again by its node

node_differs : (x h : HostInfo) → node_cmp x h ≡ Less → bytes_eq (node_of x) (node_of h) ≡ false
node_differs x h e =
    elim (bytes_eq (node_of x) (node_of h)) as (λ b. bytes_eq (node_of x) (node_of h) ≡ b → b ≡ false) [
      | true ↦ λ same.
          let nodes : node_of x ≡ node_of h = (bytes_eq-Decides (node_of x) (node_of h)).0 same in
          let tied : slice_cmp nat_cmp (node_of x) (node_of h) ≡ Equal = ap (λ n. slice_cmp nat_cmp (node_of x) n) (sym nodes) ∙ tied_itself nat_list_cmp_total (node_of x) in
          absurd (true≢false (ap is_lt (sym e ∙ tied)))
      | false ↦ λ _. refl
    ] refl

pub later_at : (P : HostInfo → Type 0) (hosts : List HostInfo) (i : ℕ) (h : HostInfo) → AllByRecursion P hosts → slice_get hosts i ≡ Some h → P h
later_at P [] i h all e = absurd (true≢false (ap is_some (sym e)))
later_at P (x ∷ xs) zero h all e = let same : x ≡ h = cc in subst P same all.0
later_at P (x ∷ xs) (suc i) h all e = later_at P xs i h all.1 e

pub host_of_at : (hosts : List HostInfo) (i : ℕ) (h : HostInfo) → IsNodeSorted hosts → slice_get hosts i ≡ Some h → host_of hosts (node_of h) ≡ Some h
unfolding IsStrictlySortedBy
host_of_at [] i h sorted e = absurd (true≢false (ap is_some (sym e)))
host_of_at (x ∷ xs) zero h sorted e =
    let same : x ≡ h = cc in
    let found : bytes_eq (node_of x) (node_of h) ≡ true = (bytes_eq-Decides (node_of x) (node_of h)).1 (ap node_of same) in
    ap (λ b. if b then Some x else host_of xs (node_of h)) found ∙ e
host_of_at (x ∷ xs) (suc i) h sorted e =
    let other : bytes_eq (node_of x) (node_of h) ≡ false = node_differs x h (later_at (λ y. node_cmp x y ≡ Less) xs i h sorted.0 e) in
    ap (λ b. if b then Some x else host_of xs (node_of h)) other ∙ host_of_at xs i h sorted.1 e

-- ---- types that nobody serves

some_points : (node : List ℕ) → 0 < length (node_places node)
unfolding node_places
some_points node = omega (arith, length-append {A = ℕ})

no_points : (node : List ℕ) (rest : List Point) → node_points node ++ rest ≡ [] → 0 < 0
no_points node rest e =
    let n = length-append (node_points node) rest in
    let m = length-map (node_places node) (point_at node) in
    let z : length (node_points node ++ rest) ≡ 0 = ap length e in
    omega (arith, some_points node)

served_case : (kind : List ℕ) (x : HostInfo) (rest : List Point) (any : Bool) → (rest ≡ [] → any ≡ false) → (b : Bool) → (if b then node_points (node_of x) else []) ++ rest ≡ [] → (b || any) ≡ false
served_case kind x rest any more true e = absurd (let z : 0 < 0 = no_points (node_of x) rest e in omega arith)
served_case kind x rest any more false e = more e

pub unserved_from_empty : (hosts : List HostInfo) (kind : List ℕ) → ring_points hosts kind ≡ [] → list_any (λ h. serves h kind) hosts ≡ false
unserved_from_empty [] kind e = refl
unserved_from_empty (x ∷ xs) kind e = served_case kind x (ring_points xs kind) (list_any (λ h. serves h kind) xs) (unserved_from_empty xs kind) (serves x kind) e

unserved_case : (x : HostInfo) (rest : List Point) (any : Bool) → (any ≡ false → rest ≡ []) → (b : Bool) → (b || any) ≡ false → (if b then node_points (node_of x) else []) ++ rest ≡ []
unserved_case x rest any more true e = absurd (true≢false e)
unserved_case x rest any more false e = more e

pub empty_from_unserved : (hosts : List HostInfo) (kind : List ℕ) → list_any (λ h. serves h kind) hosts ≡ false → ring_points hosts kind ≡ []
empty_from_unserved [] kind e = refl
empty_from_unserved (x ∷ xs) kind e = unserved_case x (ring_points xs kind) (list_any (λ h. serves h kind) xs) (empty_from_unserved xs kind) (serves x kind) e

-- ---- the host of the kept point

pub found_host : (hosts : List HostInfo) (i : ℕ) (h : HostInfo) → i < length hosts → h ≡ get_or hosts i h → slice_get hosts i ≡ Some h
found_host hosts i h within read = slice_get_read hosts (length hosts) i h refl within read

pub owner_is : (hosts : List HostInfo) (key : ActorKey) (slot : Slot) (h : HostInfo) → IsNodeSorted hosts → slice_get hosts slot.host ≡ Some h → Some (slot_point hosts slot) ≡ owner_point (ring_points hosts key.kind) (key_place key.id) → Some h ≡ option_and_then (host_of hosts) (owner_of hosts key)
owner_is hosts key slot h sorted found owns =
    sym (host_of_at hosts slot.host h sorted found)
    ∙ ap (λ o. host_of hosts (found_node o)) (sym found)
    ∙ ap (λ o. option_and_then (host_of hosts) (option_map (λ (p : Point). p.node) o)) owns

pub owner_point_is : (hosts : List HostInfo) (kind : List ℕ) (place : ℕ) (slot : Slot) (h : HostInfo) → slice_get hosts slot.host ≡ Some h → Some (slot_point hosts slot) ≡ owner_point (ring_points hosts kind) place → (p : Point) × IsOwner (ring_points hosts kind) place p × (p.node ≡ node_of h)
owner_point_is hosts kind place slot h found owns = (slot_point hosts slot, owner_from_some (ring_points hosts kind) place (slot_point hosts slot) owns, ap found_node found)

pub none_owns : (hosts : List HostInfo) (kind : List ℕ) (place : ℕ) → None ≡ owner_point (ring_points hosts kind) place → list_any (λ h. serves h kind) hosts ≡ false
none_owns hosts kind place e = unserved_from_empty hosts kind (empty_from_none (ring_points hosts kind) place e)

pub some_owns : (hosts : List HostInfo) (kind : List ℕ) (place : ℕ) (p : Point) → Some p ≡ owner_point (ring_points hosts kind) place → list_any (λ h. serves h kind) hosts ≡ false → true ≡ false
some_owns hosts kind place p owns unserved = ap is_some (owns ∙ ap (λ ps. owner_point ps place) (empty_from_unserved hosts kind unserved))

pub owner_node_is : (hosts : List HostInfo) (key : ActorKey) (slot : Slot) (h : HostInfo) → slice_get hosts slot.host ≡ Some h → Some (slot_point hosts slot) ≡ owner_point (ring_points hosts key.kind) (key_place key.id) → Some (node_of h) ≡ owner_of hosts key
owner_node_is hosts key slot h found owns =
    ap (λ o. Some (found_node o)) (sym found) ∙ ap (λ o. option_map (λ (p : Point). p.node) o) owns

pub no_owner_node : (hosts : List HostInfo) (key : ActorKey) → None ≡ owner_point (ring_points hosts key.kind) (key_place key.id) → None ≡ owner_of hosts key
no_owner_node hosts key owns = ap (λ o. option_map (λ (p : Point). p.node) o) owns
