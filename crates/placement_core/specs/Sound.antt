-- What holds of a placement in every state. Own.
use Rattle.std.specs.Prelude.{◌≡◌, ℕ, ◌≤◌, List, length, None}
use Rattle.std.specs.List.{AllByRecursion}
use Rattle.place_table.specs.declared.host.HostInfo.{HostInfo}
use Rattle.place_table.specs.Hosts.{table_fault}
use Rattle.member_roster.specs.Places.{Ascends}
use Rattle.round_core.specs.Sound.{IsRoomSound, HostsAre, HaveFewTypes}
use Rattle.placement_core.specs.declared.sweep.KeptRoom.{KeptRoom}
use Rattle.placement_core.specs.Placement.{SpaceRoom, PlacementState, most_spaces}
use Rattle.placement_core.specs.Runs.{space_of}

abbrev pub HasSoundRoom : SpaceRoom → Type 0
HasSoundRoom r = IsRoomSound r.room

-- What holds of a placement in every state.
pub record IsPlacementSound (s : PlacementState) : Type 0 where
  pub ascend : Ascends space_of s.rooms  -- in byte order of space, no space twice
  pub few : length s.rooms ≤ most_spaces
  pub rooms : AllByRecursion HasSoundRoom s.rooms

abbrev pub IsKeptSound : KeptRoom → Type 0
IsKeptSound k = IsRoomSound k.room.state

-- ---- what holds if each host that joins is of its room's space, or has at most 32 types

abbrev pub IsOfSpace : List ℕ → HostInfo → Type 0
IsOfSpace space h = h.member.space ≡ space

-- each member, and each host of the table, is of the room's space
abbrev pub HasOwnHosts : SpaceRoom → Type 0
HasOwnHosts r = HostsAre (IsOfSpace r.space) r.room

abbrev pub AreOfSpaces : List SpaceRoom → Type 0
AreOfSpaces rooms = AllByRecursion HasOwnHosts rooms

abbrev pub RoomHasFewTypes : SpaceRoom → Type 0
RoomHasFewTypes r = HaveFewTypes r.room

-- no host has more than 32 types
abbrev pub AllHaveFewTypes : List SpaceRoom → Type 0
AllHaveFewTypes rooms = AllByRecursion RoomHasFewTypes rooms

-- the table that was fixed last in the room can be built
abbrev pub HasTable : SpaceRoom → Type 0
HasTable r = table_fault r.space r.room.table ≡ None
