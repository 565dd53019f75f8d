-- Runs of a placement: steps and restarts, the state that they lead to, and the records that they leave. Own.
use Rattle.std.specs.Prelude.{◌≡◌, ◌⊎◌, ℕ, ◌<◌, ◌≤◌, List, [], ◌∷◌, Option, None, Some}
use Rattle.actor_names.specs.declared.member.Member.{Member}
use Rattle.place_table.specs.declared.host.HostInfo.{HostInfo}
use Rattle.round_core.specs.declared.event.PlaceEvent.{PlaceEvent}
use Rattle.member_roster.specs.Members.{greatest_boot, hosts_of}
use Rattle.round_core.specs.Room.{RoomState, room_step, room_restarted}
use Rattle.round_core.specs.Records.{RecordOf, step_record, restart_record}

-- what happens in a run
pub data RunEvent : Type 0 where
  Steps : (event : PlaceEvent) → (now : ℕ) → RunEvent
  Restarts : (now : ℕ) → RunEvent

abbrev pub state_after : RoomState → RunEvent → RoomState
state_after s (Steps event now) = (room_step s event now).state
state_after s (Restarts now) = room_restarted s now

-- the part of the event that has to be on the disk
abbrev pub record_after : RoomState → RunEvent → Option RecordOf
record_after s (Steps event now) = step_record s event now
record_after s (Restarts now) = restart_record s now

abbrev pub and_then : Option RecordOf → List RecordOf → List RecordOf
and_then None rs = rs
and_then (Some r) rs = r ∷ rs

-- the state to which a run leads
abbrev pub run_state : RoomState → List RunEvent → RoomState
run_state s [] = s
run_state s (e ∷ es) = run_state (state_after s e) es

-- the records that a run leaves, in their order
abbrev pub run_records : RoomState → List RunEvent → List RecordOf
run_records s [] = []
run_records s (e ∷ es) = and_then (record_after s e) (run_records (state_after s e) es)

-- ---- what is never forgotten

-- the member of one of the hosts
abbrev pub HasMember : List HostInfo → Member → Type 0
HasMember [] m = ⊥
HasMember (h ∷ hs) m = (m ≡ h.member) ⊎ HasMember hs m

-- no greatest boot falls, a new member has a boot above the greatest one that its node had, and no version falls
pub record ForgetsNothing (s t : RoomState) : Type 0 where
  pub greatest : (node : List ℕ) → greatest_boot s.boots node ≤ greatest_boot t.boots node
  pub fresh : (m : Member) → HasMember (hosts_of t.members) m → HasMember (hosts_of s.members) m ⊎ (greatest_boot s.boots m.node < m.boot)
  pub versions : s.next_version ≤ t.next_version
