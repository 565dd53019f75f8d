-- What a table keeps besides its hosts: the points of each type, in order. Own.
use Rattle.std.specs.Prelude.{◌≡◌, ℕ, ◌<◌, if◌then◌else◌, List, [], ◌∷◌, length, All, map, Option, Some, None, Bool, Vec, nat_le, IsPermutation, IsSorted}
use Rattle.std.specs.List.{slice_get, list_any, find}
use Rattle.std.specs.Option.{option_or}
use Rattle.std.specs.declared.cmp.Ordering.{Ordering}
use Rattle.std.specs.Ordering.{nat_cmp, on, then_cmp}
use Rattle.std.specs.declared.alloc.Global.{Global}
use Rattle.std.specs.List.Sorted.{IsStrictlySortedBy}
use Rattle.std.specs.Str.{bytes_eq}
use Rattle.place_table.specs.declared.point.Point.{Point}
use Rattle.place_table.specs.declared.host.HostInfo.{HostInfo}
use Rattle.place_table.specs.declared.table.Slot.{Slot}
use Rattle.place_table.specs.declared.table.TypeRing.{TypeRing}
use Rattle.place_table.specs.Ring.{point_cmp}
use Rattle.place_table.specs.Hosts.{node_of, node_cmp, node_places, ring_points}

-- in byte order of node, no node twice
abbrev pub IsNodeSorted : List HostInfo → Type 0
IsNodeSorted hosts = IsStrictlySortedBy node_cmp hosts

abbrev pub found_node : Option HostInfo → List ℕ
found_node None = []
found_node (Some host) = node_of host

-- the point that is kept as a place and the number of its host
abbrev pub slot_point : List HostInfo → Slot → Point
slot_point hosts slot = record { place = slot.place; node = found_node (slice_get hosts slot.host) }

-- a point of the host with this number
abbrev pub slot_at : ℕ → ℕ → Slot
slot_at host place = record { place = place; host = host }

-- the places of a host's points
abbrev pub places_of : HostInfo → List ℕ
places_of host = node_places (node_of host)

abbrev pub row_items : Vec ℕ Global → List ℕ
row_items row = row.items

-- whether the points of a type are kept
abbrev pub is_known : List ℕ → List TypeRing → Bool
is_known kind rings = list_any (λ r. bytes_eq r.kind kind) rings

-- the points that are kept for a type
abbrev pub kept_slots : List ℕ → List TypeRing → List Slot
kept_slots kind [] = []
kept_slots kind (ring ∷ rings) = if bytes_eq ring.kind kind then ring.slots.items else kept_slots kind rings

-- by place, then by the number of the host
abbrev pub slot_cmp : Slot → Slot → Ordering
slot_cmp = then_cmp (on (λ s. s.place) nat_cmp) (on (λ s. s.host) nat_cmp)

-- the first of the points at or after the place, or else the first of all
abbrev pub next_slot : List Slot → ℕ → Option Slot
next_slot slots place = option_or (find (λ s. nat_le place s.place) slots) (slice_get slots 0)

-- these are the points of the type among the hosts, in the order of the hosts
pub record IsListOf (hosts : List HostInfo) (kind : List ℕ) (slots : List Slot) : Type 0 where
  pub points : map (slot_point hosts) slots ≡ ring_points hosts kind
  pub numbers : All (λ s. s.host < length hosts) slots

-- these are the points of the type among the hosts, in order of place, then in byte order of node
pub record IsRingOf (hosts : List HostInfo) (kind : List ℕ) (slots : List Slot) : Type 0 where
  pub points : IsPermutation (ring_points hosts kind) (map (slot_point hosts) slots)
  pub ordered : IsSorted point_cmp (map (slot_point hosts) slots)
  pub numbers : All (λ s. s.host < length hosts) slots

-- the hosts are in order, and the points of each type are kept in order
pub record IsTableKept (hosts : List HostInfo) (rings : List TypeRing) : Type 0 where
  pub ordered : IsNodeSorted hosts
  pub kept : (kind : List ℕ) → IsRingOf hosts kind (kept_slots kind rings)
