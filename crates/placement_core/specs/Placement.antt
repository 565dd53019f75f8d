-- The placement: a room for each space, with members and rounds of its own. Own.
use Rattle.std.specs.Prelude.{ℕ, ◌==◌, nat_le, if◌then◌else◌, List, [], ◌∷◌, ◌++◌, length, map, bytes_eq, Option, None, Some, unwrap_or}
use Rattle.actor_names.specs.Names.{default_space}
use Rattle.actor_names.specs.declared.member.Member.{Member}
use Rattle.place_table.specs.declared.host.HostInfo.{HostInfo}
use Rattle.member_roster.specs.Members.{is_before, late_of}
use Rattle.round_core.specs.declared.event.PlaceEvent.{PlaceEvent}
use Rattle.round_core.specs.declared.event.PlaceEvent.TheVariants as events
use Rattle.round_core.specs.declared.event.PlaceReply.{PlaceReply}
use Rattle.round_core.specs.declared.event.PlaceReply.TheVariants as replies
use Rattle.round_core.specs.Room.{RoomState, RoomStep, new_room, room_step, room_restarted}

-- a space and its room
pub record SpaceRoom : Type 0 where
  pub space : List ℕ
  pub room : RoomState

pub record PlacementState : Type 0 where
  pub rooms : List SpaceRoom  -- in byte order of space

abbrev pub most_spaces : ℕ
most_spaces = 64

-- the opening state has the room of the space `default`, without members
abbrev pub new_placement : PlacementState
new_placement = record { rooms = record { space = default_space; room = new_room } ∷ [] }

-- ---- the room of a space

abbrev pub room_at : List SpaceRoom → List ℕ → Option RoomState
room_at [] space = None
room_at (r ∷ rs) space = if bytes_eq space r.space then Some r.room else room_at rs space

-- a space without a room is like one whose room is the opening one
abbrev pub room_of : PlacementState → List ℕ → RoomState
room_of s space = unwrap_or (room_at s.rooms space) new_room

-- the rooms with this one for the space, inserted at its place if the space had none
abbrev pub put_room : List SpaceRoom → List ℕ → RoomState → List SpaceRoom
put_room [] space room = record { space = space; room = room } ∷ []
put_room (r ∷ rs) space room =
    if bytes_eq space r.space then record { space = space; room = room } ∷ rs else (
    if is_before space r.space then record { space = space; room = room } ∷ r ∷ rs else r ∷ put_room rs space room
    )

abbrev pub with_room : PlacementState → List ℕ → RoomState → PlacementState
with_room s space room = record { rooms = put_room s.rooms space room }

-- each room changed in the same way
abbrev pub each_room : (RoomState → RoomState) → SpaceRoom → SpaceRoom
each_room f r = record { space = r.space; room = f r.room }

-- ---- steps

pub record PlacementStep : Type 0 where
  pub state : PlacementState
  pub reply : PlaceReply

abbrev pub room_stepped : PlacementState → List ℕ → RoomStep → PlacementStep
room_stepped s space t = record { state = with_room s space t.state; reply = t.reply }

abbrev pub refused : PlacementState → PlaceReply → PlacementStep
refused s reply = record { state = s; reply = reply }

-- an event of a member, in the room of its space
abbrev pub in_room : PlacementState → List ℕ → PlaceEvent → ℕ → Option RoomState → PlacementStep
in_room s space event now None = refused s (replies.NotMember 0)
in_room s space event now (Some room) = room_stepped s space (room_step room event now)

-- a Register makes the room of a space that has none, unless it is refused: there are 64 rooms, or the boot is 0
abbrev pub joins_room : PlacementState → HostInfo → ℕ → Option RoomState → PlacementStep
joins_room s host now None =
    if nat_le most_spaces (length s.rooms) then refused s (replies.SpacesFull (length s.rooms)) else (
    if host.member.boot == 0 then refused s (replies.StaleBoot 0)
    else room_stepped s host.member.space (room_step new_room (events.Register host) now)
    )
joins_room s host now (Some room) = room_stepped s host.member.space (room_step room (events.Register host) now)

-- the members of all rooms that weren't heard for 10,000 milliseconds or more
abbrev pub late_in : List SpaceRoom → ℕ → List Member
late_in [] now = []
late_in (r ∷ rs) now = late_of r.room.members now ++ late_in rs now

abbrev pub ticked : ℕ → RoomState → RoomState
ticked now room = (room_step room events.Tick now).state

abbrev pub placement_step : PlacementState → PlaceEvent → ℕ → PlacementStep
placement_step s (events.Register host) now = joins_room s host now (room_at s.rooms host.member.space)
placement_step s (events.Beat m) now = in_room s m.space (events.Beat m) now (room_at s.rooms m.space)
placement_step s (events.Ack m stage version) now = in_room s m.space (events.Ack m stage version) now (room_at s.rooms m.space)
placement_step s (events.Leave m) now = in_room s m.space (events.Leave m) now (room_at s.rooms m.space)
placement_step s (events.Lost m) now = in_room s m.space (events.Lost m) now (room_at s.rooms m.space)
placement_step s events.Tick now = record { state = record { rooms = map (each_room (ticked now)) s.rooms }; reply = replies.Ticked (length (late_in s.rooms now)) }
placement_step s events.Look now = refused s replies.Looked

-- the restart of each room
abbrev pub restarted : ℕ → RoomState → RoomState
restarted now room = room_restarted room now

abbrev pub placement_restarted : PlacementState → ℕ → PlacementState
placement_restarted s now = record { rooms = map (each_room (restarted now)) s.rooms }
