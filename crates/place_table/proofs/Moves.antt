-- An added host takes actors only to itself, and the order of the hosts doesn't matter.
use Rattle.std.specs.Prelude.{◌≡◌, ◌≢◌, ℕ, ◌⊎◌, Bool, true, false, if◌then◌else◌, List, [], ◌∷◌, ◌++◌, map, Option, Some, None, option_map, Contains, MatchOption, IsPermutation, ◌↔◌}
use Rattle.std.proofs.Common.{refl, sym, ◌∙◌, ap, subst, inl, inr, append-nil}
use Rattle.std.proofs.lemmas.Grind.{flat_map-append}
use Rattle.std.proofs.lemmas.List.Elements.{Contains-append_left, Contains-append_right, Contains-append_cases}
use Rattle.std.proofs.lemmas.List.Sorted.{Contains-permutation, IsPermutation-sym}
use Rattle.std.specs.Str.{bytes_eq}
use Rattle.actor_names.specs.declared.actor_key.ActorKey.{ActorKey}
use Rattle.place_table.specs.declared.point.Point.{Point}
use Rattle.place_table.specs.declared.host.HostInfo.{HostInfo}
use Rattle.place_table.specs.Ring.{owner_point, IsOwner}
use Rattle.place_table.specs.Hosts.{node_of, serves, node_places, node_points, point_at, host_points, ring_points, owner_of, given_owner, key_place}
use Rattle.place_table.proofs.Owners.{none_in_nil, Contains-head, Contains-tail, Contains-cons_cases, owner_cases, owner_determined}
use Rattle.place_table.proofs.Picks.{among_from_owner}

-- ---- the same points in another list

carried_owner : (xs ys : List Point) (place : ℕ) (p : Point) → Contains ys p → ((q : Point) → Contains ys q → Contains xs q) → IsOwner xs place p → IsOwner ys place p
carried_owner xs ys place p among back (inl h) = inl (record { among = among; reached = h.reached; first = λ q m r. h.first q (back q m) r })
carried_owner xs ys place p among back (inr h) = inr (λ q m. h.0 q (back q m), record { among = among; first = λ q m. h.1.first q (back q m) })

same_case : (xs ys : List Point) (place : ℕ) → ((p : Point) → Contains xs p → Contains ys p) → ((p : Point) → Contains ys p → Contains xs p) → (a b : Option Point) → MatchOption a (xs ≡ []) (IsOwner xs place) → MatchOption b (ys ≡ []) (IsOwner ys place) → a ≡ b
same_case xs ys place to back None None h k = refl
same_case xs ys place to back None (Some q) h k = absurd (none_in_nil q (subst (λ (ps : List Point). Contains ps q) h (back q (among_from_owner ys place q k))))
same_case xs ys place to back (Some p) None h k = absurd (none_in_nil p (subst (λ (ps : List Point). Contains ps p) k (to p (among_from_owner xs place p h))))
same_case xs ys place to back (Some p) (Some q) h k =
    ap (λ r. Some r) (owner_determined ys place p q (carried_owner xs ys place p (to p (among_from_owner xs place p h)) back h) k)

-- lists with the same points have the same owner
pub owner_same : (xs ys : List Point) (place : ℕ) → ((p : Point) → Contains xs p → Contains ys p) → ((p : Point) → Contains ys p → Contains xs p) → owner_point xs place ≡ owner_point ys place
owner_same xs ys place to back = same_case xs ys place to back (owner_point xs place) (owner_point ys place) (owner_cases xs place) (owner_cases ys place)

host_of_point : (kind : List ℕ) (hosts : List HostInfo) (p : Point) → Contains (ring_points hosts kind) p → (h : HostInfo) × Contains hosts h × Contains (host_points kind h) p
host_of_point kind [] p m = absurd (none_in_nil p m)
host_of_point kind (x ∷ xs) p m =
    elim (Contains-append_cases (host_points kind x) (ring_points xs kind) p m) [
      | inl here ↦ (x, Contains-head x xs, here)
      | inr later ↦ let more = host_of_point kind xs p later in (more.0, Contains-tail x xs more.0 more.1, more.2)
    ]

point_of_host : (kind : List ℕ) (hosts : List HostInfo) (h : HostInfo) (p : Point) → Contains hosts h → Contains (host_points kind h) p → Contains (ring_points hosts kind) p
point_of_host kind [] h p m point = absurd (none_in_nil h m)
point_of_host kind (x ∷ xs) h p m point =
    elim (Contains-cons_cases x xs h m) [
      | inl same ↦ Contains-append_left (host_points kind x) (ring_points xs kind) p (subst (λ (y : HostInfo). Contains (host_points kind y) p) (sym same) point)
      | inr later ↦ Contains-append_right (host_points kind x) (ring_points xs kind) p (point_of_host kind xs h p later point)
    ]

points_permuted : (kind : List ℕ) (xs ys : List HostInfo) → IsPermutation xs ys → (p : Point) → Contains (ring_points xs kind) p → Contains (ring_points ys kind) p
points_permuted kind xs ys same p m =
    let found = host_of_point kind xs p m in
    point_of_host kind ys found.0 p (Contains-permutation xs ys found.0 same found.1) found.2

-- the owner is the same in any order of the hosts
pub owner_permuted : (xs ys : List HostInfo) (key : ActorKey) → IsPermutation xs ys → owner_of xs key ≡ owner_of ys key
owner_permuted xs ys key same =
    ap (option_map (λ (p : Point). p.node))
    (owner_same (ring_points xs key.kind) (ring_points ys key.kind) (key_place key.id) (points_permuted key.kind xs ys same) (points_permuted key.kind ys xs (IsPermutation-sym xs ys same)))

-- ---- one host more

more_case : (ps qs : List Point) (place : ℕ) (node : List ℕ) → ((q : Point) → Contains qs q → q.node ≡ node) → (a b : Option Point) → MatchOption a (ps ++ qs ≡ []) (IsOwner (ps ++ qs) place) → MatchOption b (ps ≡ []) (IsOwner ps place) → (option_map (λ (p : Point). p.node) a ≡ Some node) ⊎ (a ≡ b)
more_case ps qs place node named None None h k = inr refl
more_case ps qs place node named None (Some q) h k = absurd (none_in_nil q (subst (λ (xs : List Point). Contains xs q) h (Contains-append_left ps qs q (among_from_owner ps place q k))))
more_case ps qs place node named (Some p) b h k =
    elim (Contains-append_cases ps qs p (among_from_owner (ps ++ qs) place p h)) [
      | inl old ↦ inr (old_owner b k old (carried_owner (ps ++ qs) ps place p old (λ q m. Contains-append_left ps qs q m) h))
      | inr new ↦ inl (ap (λ n. Some n) (named p new))
    ]
  where
    old_owner : (b : Option Point) → MatchOption b (ps ≡ []) (IsOwner ps place) → Contains ps p → IsOwner ps place p → Some p ≡ b
    old_owner None k old owns = absurd (none_in_nil p (subst (λ (xs : List Point). Contains xs p) k old))
    old_owner (Some q) k old owns = ap (λ r. Some r) (owner_determined ps place p q owns k)

points_named : (node : List ℕ) (places : List ℕ) (q : Point) → Contains (map (point_at node) places) q → q.node ≡ node
points_named node [] q m = absurd (none_in_nil q m)
points_named node (x ∷ xs) q m =
    elim (Contains-cons_cases (point_at node x) (map (point_at node) xs) q m) [
      | inl same ↦ ap (λ (p : Point). p.node) (sym same)
      | inr later ↦ points_named node xs q later
    ]

served_named : (h : HostInfo) (b : Bool) (q : Point) → Contains (if b then node_points (node_of h) else []) q → q.node ≡ node_of h
served_named h true q m = points_named (node_of h) (node_places (node_of h)) q m
served_named h false q m = absurd (none_in_nil q m)

ring_more : (hosts : List HostInfo) (h : HostInfo) (kind : List ℕ) → ring_points (hosts ++ h ∷ []) kind ≡ ring_points hosts kind ++ host_points kind h
ring_more hosts h kind = flat_map-append (host_points kind) hosts (h ∷ []) ∙ ap (λ ps. ring_points hosts kind ++ ps) (append-nil (host_points kind h))

-- with one more host, the new host owns the actor or the owner is as before
pub owner_more : (hosts : List HostInfo) (h : HostInfo) (key : ActorKey) → (owner_of (hosts ++ h ∷ []) key ≡ Some (node_of h)) ⊎ (owner_of (hosts ++ h ∷ []) key ≡ owner_of hosts key)
owner_more hosts h key =
    let ps = ring_points hosts key.kind in
    let qs = host_points key.kind h in
    let place = key_place key.id in
    let joined : owner_of (hosts ++ h ∷ []) key ≡ option_map (λ (p : Point). p.node) (owner_point (ps ++ qs) place) = ap (λ xs. option_map (λ (p : Point). p.node) (owner_point xs place)) (ring_more hosts h key.kind) in
    elim (more_case ps qs place (node_of h) (served_named h (serves h key.kind)) (owner_point (ps ++ qs) place) (owner_point ps place) (owner_cases (ps ++ qs) place) (owner_cases ps place)) [
      | inl taken ↦ inl (joined ∙ taken)
      | inr same ↦ inr (joined ∙ ap (option_map (λ (p : Point). p.node)) same)
    ]

pub taken_by_new : (hosts : List HostInfo) (h : HostInfo) (key : ActorKey) → (owner_of (hosts ++ h ∷ []) key ≢ owner_of hosts key) → owner_of (hosts ++ h ∷ []) key ≡ Some (node_of h)
taken_by_new hosts h key moved = elim (owner_more hosts h key) [ inl taken ↦ taken | inr same ↦ absurd (moved same) ]

-- ---- the owners that tables of a space give

pub given_permuted : (a b : List ℕ) (xs ys : List HostInfo) (key : ActorKey) → a ≡ b → IsPermutation xs ys → given_owner a xs key ≡ given_owner b ys key
given_permuted a b xs ys key e same = rw (e, owner_permuted xs ys key same) refl

pub given_to_new : (space : List ℕ) (hosts : List HostInfo) (h : HostInfo) (key : ActorKey) → (given_owner space (hosts ++ h ∷ []) key ≢ given_owner space hosts key) → given_owner space (hosts ++ h ∷ []) key ≡ Some (node_of h)
given_to_new space hosts h key = go (bytes_eq key.space space)
  where
    go : (b : Bool) → ((if b then owner_of (hosts ++ h ∷ []) key else None) ≢ (if b then owner_of hosts key else None)) → (if b then owner_of (hosts ++ h ∷ []) key else None) ≡ Some (node_of h)
    go true moved = taken_by_new hosts h key moved
    go false moved = absurd (moved refl)

-- a fact that holds exactly if two owners differ, carried over to equal owners
pub moves_same : {P : Type 0} (a a' b b' : Option (List ℕ)) → a ≡ a' → b ≡ b' → P ↔ (a ≢ b) → P ↔ (a' ≢ b')
moves_same a a' b b' e f h = (λ p d. h.0 p (e ∙ d ∙ sym f), λ n. h.1 (λ d. n (sym e ∙ d ∙ f)))
