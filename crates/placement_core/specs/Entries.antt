-- What has to be on the disk of a step, one entry for each room that changed. Own.
use Rattle.std.specs.Prelude.{ℕ, Bool, false, ◌||◌, ◌==◌, nat_le, if◌then◌else◌, List, [], ◌∷◌, ◌++◌, length, bytes_eq, Option, None, Some}
use Rattle.place_table.specs.declared.host.HostInfo.{HostInfo}
use Rattle.round_core.specs.declared.event.PlaceEvent.{PlaceEvent}
use Rattle.round_core.specs.declared.event.PlaceEvent.TheVariants as events
use Rattle.round_core.specs.Room.{RoomState, new_room}
use Rattle.round_core.specs.Records.{RecordOf, step_record, restart_record}
use Rattle.placement_core.specs.Placement.{SpaceRoom, PlacementState, most_spaces, room_at}

-- a space, and the record of its room
pub record EntryOf : Type 0 where
  pub space : List ℕ
  pub change : RecordOf

-- the entry of a room, if it has anything to record
abbrev pub noted : List ℕ → Option RecordOf → List EntryOf
noted space None = []
noted space (Some change) = record { space = space; change = change } ∷ []

-- the entries of all rooms, in their order
abbrev pub each_record : (RoomState → Option RecordOf) → List SpaceRoom → List EntryOf
each_record f [] = []
each_record f (r ∷ rs) = noted r.space (f r.room) ++ each_record f rs

abbrev pub tick_record : ℕ → RoomState → Option RecordOf
tick_record now room = step_record room events.Tick now

abbrev pub restarted_record : ℕ → RoomState → Option RecordOf
restarted_record now room = restart_record room now

-- what an event of a member leaves, in the room of its space
abbrev pub room_entries : List ℕ → PlaceEvent → ℕ → Option RoomState → List EntryOf
room_entries space event now None = []
room_entries space event now (Some room) = noted space (step_record room event now)

-- what a Register leaves; nothing if it makes no room in a space that has none
abbrev pub join_entries : PlacementState → HostInfo → ℕ → Option RoomState → List EntryOf
join_entries s host now None =
    if nat_le most_spaces (length s.rooms) then [] else (if host.member.boot == 0 then [] else noted host.member.space (step_record new_room (events.Register host) now))
join_entries s host now (Some room) = noted host.member.space (step_record room (events.Register host) now)

-- the record of a step: none (an empty list) if no room has anything to record
abbrev pub placement_record : PlacementState → PlaceEvent → ℕ → List EntryOf
placement_record s (events.Register host) now = join_entries s host now (room_at s.rooms host.member.space)
placement_record s (events.Beat m) now = room_entries m.space (events.Beat m) now (room_at s.rooms m.space)
placement_record s (events.Ack m stage version) now = room_entries m.space (events.Ack m stage version) now (room_at s.rooms m.space)
placement_record s (events.Leave m) now = room_entries m.space (events.Leave m) now (room_at s.rooms m.space)
placement_record s (events.Lost m) now = room_entries m.space (events.Lost m) now (room_at s.rooms m.space)
placement_record s events.Tick now = each_record (tick_record now) s.rooms
placement_record s events.Look now = []

-- the record of a restart
abbrev pub placement_restart_record : PlacementState → ℕ → List EntryOf
placement_restart_record s now = each_record (restarted_record now) s.rooms

-- an entry names the space
abbrev pub has_entry : List EntryOf → List ℕ → Bool
has_entry [] space = false
has_entry (e ∷ es) space = bytes_eq space e.space || has_entry es space
