-- Rooms as they are kept, in a vector. Until the first Register the vector is empty. Own.
use Rattle.std.specs.Prelude.{ℕ, ◌-◌, List, [], ◌∷◌, ◌++◌, take, drop}
use Rattle.round_core.specs.declared.event.PlaceEvent.TheVariants as events
use Rattle.round_core.specs.Room.{RoomState, room_step, room_restarted}
use Rattle.round_core.specs.Records.{step_record, restart_record}
use Rattle.round_core.specs.Views.{RoomView}
use Rattle.placement_core.specs.declared.sweep.KeptRoom.{KeptRoom}
use Rattle.placement_core.specs.Entries.{EntryOf, noted}
use Rattle.placement_core.specs.Placement.{SpaceRoom, PlacementState, new_placement}

abbrev pub room_state : RoomView → RoomState
room_state r = r.state

abbrev pub kept_space : KeptRoom → List ℕ
kept_space k = k.space

abbrev pub kept : KeptRoom → SpaceRoom
kept k = record { space = k.space; room = k.room.state }

abbrev pub kept_ticked : ℕ → KeptRoom → KeptRoom
kept_ticked now k = record { space = k.space; room = record { state = (room_step k.room.state events.Tick now).state; recent = step_record k.room.state events.Tick now } }

abbrev pub kept_restarted : ℕ → KeptRoom → KeptRoom
kept_restarted now k = record { space = k.space; room = record { state = room_restarted k.room.state now; recent = restart_record k.room.state now } }

-- if no room is kept, it is the opening placement
abbrev pub shown : List SpaceRoom → PlacementState
shown [] = new_placement
shown (r ∷ rs) = record { rooms = r ∷ rs }

-- the rooms that are kept, and what the last step has to record
pub record KeptRooms : Type 0 where
  pub rooms : List SpaceRoom
  pub recent : List EntryOf

-- what the last step of each room has to record
abbrev pub kept_entries : List KeptRoom → List EntryOf
kept_entries [] = []
kept_entries (k ∷ ks) = noted k.space k.room.recent ++ kept_entries ks

-- the same of the rooms from one index up to another
abbrev pub entries_between : ℕ → ℕ → List KeptRoom → List EntryOf
entries_between from upto ks = kept_entries (take (upto - from) (drop from ks))
