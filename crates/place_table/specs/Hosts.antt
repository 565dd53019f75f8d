-- Hosts on the ring, the tables that are refused, and the owner of an actor in a table. Own.
use Rattle.std.specs.Prelude.{◌≡◌, ◌⊎◌, ℕ, suc, zero, Bool, nat_lt, if◌then◌else◌, List, [], ◌∷◌, ◌++◌, length, Option, Some, None, option_map, option_and_then, find, map, Result, Err, IsOkUnless}
use Rattle.std.specs.List.{list_any, flat_map}
use Rattle.std.specs.declared.cmp.Ordering.{Ordering}
use Rattle.std.specs.Ordering.{nat_cmp}
use Rattle.std.specs.Cmp.Lexicographic.{slice_cmp}
use Rattle.std.specs.Str.{bytes_eq}
use Rattle.actor_names.specs.declared.actor_key.ActorKey.{ActorKey}
use Rattle.place_table.specs.declared.point.Point.{Point}
use Rattle.place_table.specs.declared.host.HostInfo.{HostInfo}
use Rattle.place_table.specs.declared.error.TableError.{TableError}
use Rattle.place_table.specs.declared.error.TableError.TheVariants.{TooManyMembers, TooManyTypes, SameNode, OtherSpace, OutOfMemory}
use Rattle.place_table.specs.Hash.{place_of, point_text}
use Rattle.place_table.specs.Ring.{owner_point}

-- the place on the ring of an actor with this id; its type doesn't matter
abbrev pub key_place : List ℕ → ℕ
key_place id = place_of id

-- the places of the points of a node with numbers below n
abbrev pub first_places : ℕ → List ℕ → List ℕ
first_places zero node = []
first_places (suc n) node = first_places n node ++ place_of (point_text node n) ∷ []

-- the places of the 100 points of a node
unfoldable pub node_places : List ℕ → List ℕ
node_places node = first_places 100 node

abbrev pub point_at : List ℕ → ℕ → Point
point_at node place = record { place = place; node = node }

-- the 100 points of a node
abbrev pub node_points : List ℕ → List Point
node_points node = map (point_at node) (node_places node)

abbrev pub node_of : HostInfo → List ℕ
node_of host = host.member.node

abbrev pub serves : HostInfo → List ℕ → Bool
serves host kind = list_any (λ k. bytes_eq k kind) host.kinds

-- the points of a host for a type
abbrev pub host_points : List ℕ → HostInfo → List Point
host_points kind host = if serves host kind then node_points (node_of host) else []

-- the points of the hosts that serve the type
abbrev pub ring_points : List HostInfo → List ℕ → List Point
ring_points hosts kind = flat_map (host_points kind) hosts

-- the node that owns an actor among the hosts, whatever its space
abbrev pub owner_of : List HostInfo → ActorKey → Option (List ℕ)
owner_of hosts key = option_map (λ p. p.node) (owner_point (ring_points hosts key.kind) (key_place key.id))

-- the node to which a table of the space gives an actor among the hosts: none if the actor is of another space
abbrev pub given_owner : List ℕ → List HostInfo → ActorKey → Option (List ℕ)
given_owner space hosts key = if bytes_eq key.space space then owner_of hosts key else None

-- a placement table: a space, a version, and hosts of distinct nodes in byte order of node; `build_table` makes
-- tables whose hosts are all of the space
pub record PlacementTable : Type 0 where
  pub space : List ℕ
  pub version : ℕ
  pub hosts : List HostInfo

abbrev pub host_of : List HostInfo → List ℕ → Option HostInfo
host_of hosts node = find (λ h. bytes_eq (node_of h) node) hosts

-- the host that owns an actor in a table
abbrev pub table_owner : PlacementTable → ActorKey → Option HostInfo
table_owner table key = option_and_then (host_of table.hosts) (given_owner table.space table.hosts key)

-- hosts in byte order of node
abbrev pub node_cmp : HostInfo → HostInfo → Ordering
node_cmp a b = slice_cmp nat_cmp (node_of a) (node_of b)

-- the first host with more than 32 types
abbrev pub types_fault : List HostInfo → Option TableError
types_fault [] = None
types_fault (h ∷ hs) = if nat_lt 32 (length h.kinds) then Some (TooManyTypes (node_of h) (length h.kinds)) else types_fault hs

-- the first host whose node came before, with `earlier` the hosts that come before the list
abbrev pub same_node_fault : List HostInfo → List HostInfo → Option TableError
same_node_fault earlier [] = None
same_node_fault earlier (h ∷ hs) = if list_any (λ e. bytes_eq (node_of e) (node_of h)) earlier then Some (SameNode (node_of h)) else same_node_fault (earlier ++ h ∷ []) hs

-- the first host of another space
abbrev pub other_space_fault : List ℕ → List HostInfo → Option TableError
other_space_fault space [] = None
other_space_fault space (h ∷ hs) = if bytes_eq h.member.space space then other_space_fault space hs else Some (OtherSpace (node_of h))

abbrev pub first_fault : Option TableError → Option TableError → Option TableError
first_fault None second = second
first_fault (Some e) second = Some e

-- why no table of these hosts is built for the space, apart from memory
abbrev pub table_fault : List ℕ → List HostInfo → Option TableError
table_fault space hosts =
    if nat_lt 256 (length hosts) then Some (TooManyMembers (length hosts)) else first_fault (types_fault hosts) (first_fault (same_node_fault [] hosts) (other_space_fault space hosts))

-- hosts with a fault are refused with that very fault; from any others a table is built, unless memory runs out
abbrev pub BuildsTable : {A : Type 0} → Option TableError → Result A TableError → Type 0
BuildsTable None answer = IsOkUnless answer OutOfMemory
BuildsTable (Some fault) answer = answer ≡ Err fault

-- the first fault of two tables is the answer, the smaller table's before the larger one's; memory may run out before
-- the larger one's
abbrev pub RefusesTables : {A : Type 0} → Option TableError → Option TableError → Result A TableError → Type 0
RefusesTables (Some fault) larger answer = answer ≡ Err fault
RefusesTables None (Some fault) answer = (answer ≡ Err fault) ⊎ (answer ≡ Err OutOfMemory)
RefusesTables None None answer = IsOkUnless answer OutOfMemory
