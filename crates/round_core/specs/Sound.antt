-- What holds of a room in every state, and what hosts of at most 32 types make of its table. Own.
use Rattle.std.specs.Prelude.{◌≡◌, ℕ, ◌≤◌, true, false, List, [], ◌∷◌, length, None}
use Rattle.std.specs.List.{AllByRecursion}
use Rattle.place_table.specs.declared.host.HostInfo.{HostInfo}
use Rattle.place_table.specs.Hosts.{table_fault, types_fault, other_space_fault}
use Rattle.member_roster.specs.declared.book.Known.{Known}
use Rattle.member_roster.specs.Members.{Joined, boot_of, greatest_boot, joined_node}
use Rattle.member_roster.specs.Places.{Ascends, host_node}
use Rattle.round_core.specs.declared.event.PlaceEvent.{PlaceEvent}
use Rattle.round_core.specs.declared.event.PlaceEvent.TheVariants as events
use Rattle.round_core.specs.declared.phase.RoundPhase.TheVariants.{Quiet}
use Rattle.round_core.specs.Room.{RoomState, version_limit, most_members, most_nodes}
use Rattle.round_core.specs.Runs.{RunEvent, Steps, Restarts}

-- ---- hosts that a table may have

abbrev pub most_types : ℕ
most_types = 32

-- at most 32 types
abbrev pub HasFewTypes : HostInfo → Type 0
HasFewTypes h = length h.kinds ≤ most_types

-- the host of a Register has at most 32 types
abbrev pub BringsFewTypes : PlaceEvent → Type 0
BringsFewTypes (events.Register host) = HasFewTypes host
BringsFewTypes event = Unit {0}

-- each Register of a run brings a host of at most 32 types
abbrev pub RunsFewTypes : List RunEvent → Type 0
RunsFewTypes [] = Unit {0}
RunsFewTypes (Steps event now ∷ run) = BringsFewTypes event × RunsFewTypes run
RunsFewTypes (Restarts now ∷ run) = RunsFewTypes run

-- no table is refused for these hosts but for one that has more than 32 types or is of another space
abbrev pub MakesTable : List HostInfo → Type 0
MakesTable hosts = (space : List ℕ) → types_fault hosts ≡ None → other_space_fault space hosts ≡ None → table_fault space hosts ≡ None

-- ---- a room

abbrev pub known_node : Known → List ℕ
known_node k = k.node

-- the member's boot is at most the greatest one of its node
abbrev pub HasKnownBoot : List Known → Joined → Type 0
HasKnownBoot boots j = boot_of j ≤ greatest_boot boots (joined_node j)

abbrev pub IsPendingTarget : Joined → Type 0
IsPendingTarget j = j.pending ≡ true → j.target ≡ true

abbrev pub IsNotPending : Joined → Type 0
IsNotPending j = j.pending ≡ false

-- What holds of a room in every state.
pub record IsRoomSound (s : RoomState) : Type 0 where
  pub ascend : Ascends joined_node s.members  -- in byte order of node, no node twice
  pub few : length s.members ≤ most_members
  pub known_ascend : Ascends known_node s.boots
  pub known : length s.boots ≤ most_nodes
  pub first : 1 ≤ s.next_version
  pub last : s.next_version ≤ version_limit
  pub boots : AllByRecursion (HasKnownBoot s.boots) s.members
  pub targets : AllByRecursion IsPendingTarget s.members  -- those pending are among the targets
  pub quiet : s.phase ≡ Quiet → AllByRecursion IsNotPending s.members  -- nobody is pending if no round is running
  pub table_ascends : Ascends host_node s.table
  pub table_is_made : MakesTable s.table

-- Each member's host, and each of the table that was fixed last, is one of these.
pub record HostsAre (P : HostInfo → Type 0) (s : RoomState) : Type 0 where
  pub members : AllByRecursion (λ j. P j.host) s.members
  pub table : AllByRecursion P s.table

-- every host has at most 32 types
abbrev pub HaveFewTypes : RoomState → Type 0
HaveFewTypes s = HostsAre HasFewTypes s
