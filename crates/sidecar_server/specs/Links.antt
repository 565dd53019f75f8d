-- Links to the placement. Own.
use Rattle.std.specs.Prelude.{◌≡◌, ◌⊎◌, ◌==◌, ◌&&◌, if◌then◌else◌, Bool, true, false, Option, Some, None, Ok}
use Rattle.actor_names.specs.declared.address.Address.{Address}
use Rattle.actor_ports.specs.Traffic.{Place, Traffic, Dialled, Dials}
use Rattle.http_edge.specs.Carry.{Carried, Over}
use Rattle.sidecar_server.specs.declared.placements.Placements.{Placements}

-- one of the two addresses at which the placement may listen
abbrev pub IsOneOf : Placements → Address → Type 0
IsOneOf p at = (at ≡ p.first) ⊎ (p.second ≡ Some at)

abbrev pub second_or : Address → Option Address → Address
second_or first None = first
second_or first (Some second) = second

-- the address that is dialled next: the second one, if there is one and its turn has come
abbrev pub next_address : Placements → Bool → Address
next_address p is_second = if is_second then second_or p.first p.second else p.first

abbrev pub is_same_address : Address → Address → Bool
is_same_address a b = (a.ip == b.ip) && (a.port == b.port)

abbrev pub is_same_second : Option Address → Option Address → Bool
is_same_second None None = true
is_same_second None (Some b) = false
is_same_second (Some a) None = false
is_same_second (Some a) (Some b) = is_same_address a b

-- the two are the same
abbrev pub are_same_placements : Placements → Placements → Bool
are_same_placements a b = is_same_address a.first b.first && is_same_second a.second b.second

-- Some dialler gave this link when it was made to dial that place, and since then these bytes went over it and no others.
-- Where nothing else is known of diallers and links, only a call that dials gives one.
pub record IsLinkTo {N L : Type 0} (dialled : N → Option Dialled) (traffic : L → Option Traffic) (at : Place) (link : L) : Type 0 where
  pub before : N
  pub after : N
  pub first : L
  pub dials : Dials traffic (dialled before) (dialled after) at (Ok first)
  pub carried : Carried
  pub over : Over (traffic first) (traffic link) carried
