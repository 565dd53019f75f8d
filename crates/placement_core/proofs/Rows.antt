-- Worked records of a placement.
use Rattle.std.proofs.Common.{◌≡◌, ℕ, List, [], ◌∷◌, Some, refl}
use Rattle.std.specs.declared.result.Result.{Result}
use Rattle.std.specs.declared.result.Result.TheVariants.{Ok, Err}
use Rattle.actor_names.specs.Names.{default_space}
use Rattle.actor_names.specs.declared.member.Member.{Member}
use Rattle.place_table.specs.declared.host.HostInfo.{HostInfo}
use Rattle.member_roster.specs.Members.{members_of}
use Rattle.round_core.specs.Room.{last_version}
use Rattle.placement_core.specs.Placement.{PlacementState, room_of}
use Rattle.placement_core.specs.Entries.{EntryOf}
use Rattle.placement_core.specs.Restores.{placement_restored}

abbrev blue : List ℕ
blue = 98 ∷ []

abbrev member : List ℕ → Member
member space = record { space = space; node = 97 ∷ []; boot = 1 }

abbrev host : List ℕ → HostInfo
host space = record { member = member space; app = 120 ∷ []; address = record { ip = 1; port = 1 }; kinds = [] }

-- a member joined in the space, and a first round began
abbrev joined : List ℕ → EntryOf
joined space = record { space = space; change = record { joined = Some (host space); removed = []; next_version = 2 } }

abbrev members_in : List ℕ → Result PlacementState ℕ → List Member
members_in space (Ok s) = members_of (room_of s space).members
members_in space (Err at) = []

abbrev version_in : List ℕ → Result PlacementState ℕ → ℕ
version_in space (Ok s) = last_version (room_of s space)
version_in space (Err at) = 0

-- one record of two rooms: both have their member again, and each restart begins a second round
abbrev two_rooms : Result PlacementState ℕ
two_rooms = placement_restored ((joined blue ∷ joined default_space ∷ []) ∷ []) 0

first_room_is_restored : members_in blue two_rooms ≡ member blue ∷ []
first_room_is_restored = refl

second_room_is_restored : members_in default_space two_rooms ≡ member default_space ∷ []
second_room_is_restored = refl

second_round_begins : version_in blue two_rooms ≡ 2
second_round_begins = refl

-- a record that names one room twice is bad, and its index is told
room_named_twice_is_bad : placement_restored ((joined default_space ∷ []) ∷ (joined blue ∷ joined blue ∷ []) ∷ []) 0 ≡ Err 1
room_named_twice_is_bad = refl
