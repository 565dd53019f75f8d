-- The host of an owner, and the actors that have none.
use Rattle.std.specs.Prelude.{◌≡◌, ◌≢◌, ◌↔◌, ◌⊎◌, ℕ, Bool, true, false, if◌then◌else◌, List, [], ◌∷◌, Option, Some, None, map, option_map, Contains}
use Rattle.std.specs.List.{list_any}
use Rattle.std.specs.Str.{bytes_eq}
use Rattle.std.proofs.Common.{refl, sym, ◌∙◌, ap, inl, inr, true≢false, is_some}
use Rattle.std.proofs.lemmas.List.Elements.{Contains-append_cases}
use Rattle.std.proofs.lemmas.Slice.Eq.{bytes_eq-Decides}
use Rattle.actor_names.specs.declared.actor_key.ActorKey.{ActorKey}
use Rattle.place_table.specs.declared.point.Point.{Point}
use Rattle.place_table.specs.declared.host.HostInfo.{HostInfo}
use Rattle.place_table.specs.Ring.{owner_point}
use Rattle.place_table.specs.Hosts.{node_of, serves, node_places, node_points, point_at, host_points, ring_points, owner_of, given_owner, key_place}
use Rattle.place_table.proofs.Owners.{none_in_nil, Contains-head, Contains-tail, Contains-cons_cases}
use Rattle.place_table.proofs.Picks.{among_from_owner, owner_from_some}
use Rattle.place_table.proofs.TableOwners.{none_owns, some_owns}

-- ---- the host of a point

point_named : (node : List ℕ) (places : List ℕ) (p : Point) → Contains (map (point_at node) places) p → node ≡ p.node
point_named node [] p m = absurd (none_in_nil p m)
point_named node (x ∷ xs) p m =
    elim (Contains-cons_cases (point_at node x) (map (point_at node) xs) p m) [
      | inl same ↦ ap (λ (q : Point). q.node) same
      | inr later ↦ point_named node xs p later
    ]

point_served : (h : HostInfo) (b : Bool) (p : Point) → Contains (if b then node_points (node_of h) else []) p → (node_of h ≡ p.node) × (b ≡ true)
point_served h true p m = (point_named (node_of h) (node_places (node_of h)) p m, refl)
point_served h false p m = absurd (none_in_nil p m)

host_of_point : (kind : List ℕ) (hosts : List HostInfo) (p : Point) → Contains (ring_points hosts kind) p → (h : HostInfo) × Contains hosts h × (node_of h ≡ p.node) × (serves h kind ≡ true)
host_of_point kind [] p m = absurd (none_in_nil p m)
host_of_point kind (x ∷ xs) p m =
    elim (Contains-append_cases (host_points kind x) (ring_points xs kind) p m) [
      | inl here ↦ let own = point_served x (serves x kind) p here in (x, Contains-head x xs, own.0, own.1)
      | inr later ↦ let more = host_of_point kind xs p later in (more.0, Contains-tail x xs more.0 more.1, more.2, more.3)
    ]

-- ---- the owner among the hosts

owner_host : (hosts : List HostInfo) (key : ActorKey) (node : List ℕ) (found : Option Point) → found ≡ owner_point (ring_points hosts key.kind) (key_place key.id) → option_map (λ (p : Point). p.node) found ≡ Some node
    → (h : HostInfo) × Contains hosts h × (node_of h ≡ node) × (serves h key.kind ≡ true)
owner_host hosts key node None is e = absurd (true≢false (ap is_some (sym e)))
owner_host hosts key node (Some p) is e =
    let points = ring_points hosts key.kind in
    let host = host_of_point key.kind hosts p (among_from_owner points (key_place key.id) p (owner_from_some points (key_place key.id) p is)) in
    let same : p.node ≡ node = cc in
    (host.0, host.1, host.2 ∙ same, host.3)

-- the owner is one of the hosts, and serves the type
pub owner_among : (space : List ℕ) (hosts : List HostInfo) (key : ActorKey) (node : List ℕ) → given_owner space hosts key ≡ Some node
    → (h : HostInfo) × Contains hosts h × (node_of h ≡ node) × (serves h key.kind ≡ true)
owner_among space hosts key node = go (bytes_eq key.space space)
  where
    go : (b : Bool) → (if b then owner_of hosts key else None) ≡ Some node → (h : HostInfo) × Contains hosts h × (node_of h ≡ node) × (serves h key.kind ≡ true)
    go true e = owner_host hosts key node (owner_point (ring_points hosts key.kind) (key_place key.id)) refl e
    go false e = absurd (true≢false (ap is_some (sym e)))

-- ---- actors without an owner

unowned : (hosts : List HostInfo) (key : ActorKey) (found : Option Point) → found ≡ owner_point (ring_points hosts key.kind) (key_place key.id) → option_map (λ (p : Point). p.node) found ≡ None → list_any (λ h. serves h key.kind) hosts ≡ false
unowned hosts key None is e = none_owns hosts key.kind (key_place key.id) is
unowned hosts key (Some p) is e = absurd (true≢false (ap is_some e))

unserved : (hosts : List HostInfo) (key : ActorKey) (found : Option Point) → found ≡ owner_point (ring_points hosts key.kind) (key_place key.id) → list_any (λ h. serves h key.kind) hosts ≡ false → option_map (λ (p : Point). p.node) found ≡ None
unserved hosts key None is none = refl
unserved hosts key (Some p) is none = absurd (true≢false (some_owns hosts key.kind (key_place key.id) p is none))

-- none exactly if the actor is of another space or nobody serves its type
pub nobody_owns : (space : List ℕ) (hosts : List HostInfo) (key : ActorKey)
    → (given_owner space hosts key ≡ None) ↔ ((key.space ≢ space) ⊎ (list_any (λ h. serves h key.kind) hosts ≡ false))
nobody_owns space hosts key = go (bytes_eq key.space space) refl
  where
    found : Option Point
    found = owner_point (ring_points hosts key.kind) (key_place key.id)

    same : bytes_eq key.space space ≡ true → key.space ≡ space
    same is = (bytes_eq-Decides key.space space).0 is

    other : bytes_eq key.space space ≡ false → key.space ≢ space
    other is e = true≢false (sym ((bytes_eq-Decides key.space space).1 e) ∙ is)

    go : (b : Bool) → bytes_eq key.space space ≡ b → ((if b then owner_of hosts key else None) ≡ None) ↔ ((key.space ≢ space) ⊎ (list_any (λ h. serves h key.kind) hosts ≡ false))
    go true is = (λ e. inr (unowned hosts key found refl e), λ why. elim why [ inl n ↦ absurd (n (same is)) | inr none ↦ unserved hosts key found refl none ])
    go false is = (λ e. inl (other is), λ why. refl)
