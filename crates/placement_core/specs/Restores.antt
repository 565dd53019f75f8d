-- What is restored from the records of a placement. Own.
use Rattle.std.specs.Prelude.{ℕ, ◌+◌, nat_le, if◌then◌else◌, List, [], ◌∷◌, length, Option, None, Some}
use Rattle.std.specs.declared.result.Result.{Result}
use Rattle.std.specs.declared.result.Result.TheVariants.{Ok, Err}
use Rattle.round_core.specs.Room.{RoomState, new_room}
use Rattle.round_core.specs.Records.{after_record}
use Rattle.placement_core.specs.Placement.{SpaceRoom, PlacementState, new_placement, most_spaces, room_at, put_room, placement_restarted}
use Rattle.placement_core.specs.Entries.{EntryOf, has_entry, placement_restart_record}

-- the rooms with this one for the space, if there is one
abbrev pub put_found : List SpaceRoom → List ℕ → Option RoomState → Option (List SpaceRoom)
put_found rs space None = None
put_found rs space (Some room) = Some (put_room rs space room)

-- the change is that of the room of the space, or of a new one; there is no 65th room
abbrev pub after_change : List SpaceRoom → EntryOf → Option RoomState → Option (List SpaceRoom)
after_change rs e None = if nat_le most_spaces (length rs) then None else put_found rs e.space (after_record new_room e.change)
after_change rs e (Some room) = put_found rs e.space (after_record room e.change)

-- the rooms after an entry, if it isn't bad
abbrev pub after_entry : List SpaceRoom → EntryOf → Option (List SpaceRoom)
after_entry rs e = after_change rs e (room_at rs e.space)

abbrev pub and_on : Option (List SpaceRoom) → (List SpaceRoom → Option (List SpaceRoom)) → Option (List SpaceRoom)
and_on None next = None
and_on (Some rs) next = next rs

-- the rooms after a record, if it isn't bad: no entry is, and none names the space of another
abbrev pub after_entries : List SpaceRoom → List EntryOf → Option (List SpaceRoom)
after_entries rs [] = Some rs
after_entries rs (e ∷ es) = if has_entry es e.space then None else and_on (after_entry rs e) (λ ts. after_entries ts es)

-- goes on from these rooms, or gives the index of the bad record
abbrev pub go_on : ℕ → Option (List SpaceRoom) → (List SpaceRoom → Result (List SpaceRoom) ℕ) → Result (List SpaceRoom) ℕ
go_on at None next = Err at
go_on at (Some rs) next = next rs

-- the rooms after the records, or the index of the first bad one; `at` is the index of the first record
abbrev pub rooms_after : ℕ → List SpaceRoom → List (List EntryOf) → Result (List SpaceRoom) ℕ
rooms_after at rs [] = Ok rs
rooms_after at rs (r ∷ more) = go_on at (after_entries rs r) (λ ts. rooms_after (at + 1) ts more)

abbrev pub restarted_of : Result (List SpaceRoom) ℕ → ℕ → Result PlacementState ℕ
restarted_of (Ok rs) now = Ok (placement_restarted (record { rooms = rs }) now)
restarted_of (Err at) now = Err at

-- what is restored from the records: the restart of the state after them, or the index of the first bad one
abbrev pub placement_restored : List (List EntryOf) → ℕ → Result PlacementState ℕ
placement_restored records now = restarted_of (rooms_after 0 new_placement.rooms records) now

abbrev pub recorded_of : Result (List SpaceRoom) ℕ → ℕ → List EntryOf
recorded_of (Ok rs) now = placement_restart_record (record { rooms = rs }) now
recorded_of (Err at) now = []

-- what the restored placement has to record: what its restart has to
abbrev pub restored_record : List (List EntryOf) → ℕ → List EntryOf
restored_record records now = recorded_of (rooms_after 0 new_placement.rooms records) now
