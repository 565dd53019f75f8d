-- What one space sees of a cluster: its room, the parts of its members, and the messages that name them. Own.
use Rattle.std.specs.Prelude.{◌≡◌, ℕ, Bool, List, filter, bytes_eq, Option, Some}
use Rattle.actor_names.specs.declared.member.Member.{Member}
use Rattle.actor_names.specs.declared.actor_key.ActorKey.{ActorKey}
use Rattle.place_table.specs.declared.host.HostInfo.{HostInfo}
use Rattle.place_table.specs.Hosts.{PlacementTable}
use Rattle.part_model.specs.Part.{PartState}
use Rattle.round_core.specs.Room.{RoomState}
use Rattle.placement_core.specs.Placement.{room_of}
use Rattle.cluster_model.specs.Messages.{Message, named_in}
use Rattle.cluster_model.specs.World.{ClusterState}

pub record SpaceState : Type 0 where
  pub space : List ℕ
  pub room : RoomState
  pub parts : List PartState
  pub messages : List Message
  pub boots : ℕ  -- those drawn over all spaces

abbrev pub is_of : List ℕ → Member → Bool
is_of space m = bytes_eq space m.space

abbrev pub parts_of : List ℕ → List PartState → List PartState
parts_of space ps = filter (λ p. is_of space p.member) ps

abbrev pub messages_of : List ℕ → List Message → List Message
messages_of space ms = filter (λ x. is_of space (named_in x)) ms

abbrev pub seen_in : ClusterState → List ℕ → SpaceState
seen_in w space = record { space = space; room = room_of w.placement space; parts = parts_of space w.parts; messages = messages_of space w.messages; boots = w.boots }

-- no table gives an actor of another space an owner
abbrev pub KeepsToSpace : (PlacementTable → ActorKey → Option HostInfo) → Type 0
KeepsToSpace owner = (t : PlacementTable) (k : ActorKey) (h : HostInfo) → owner t k ≡ Some h → k.space ≡ t.space
