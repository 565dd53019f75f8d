-- Runs of a placement, and what holds in each state that they reach. Own.
use Rattle.std.specs.Prelude.{ℕ, ◌≡◌, ◌≤◌, List, [], ◌∷◌, length}
use Rattle.round_core.specs.Runs.{RunEvent, Steps, Restarts}
use Rattle.round_core.specs.Settled.{IsSettled}
use Rattle.member_roster.specs.Places.{Ascends}
use Rattle.round_core.specs.Room.{SameDurableState}
use Rattle.placement_core.specs.Entries.{EntryOf, placement_record, placement_restart_record}
use Rattle.placement_core.specs.Placement.{SpaceRoom, PlacementState, most_spaces, placement_step, placement_restarted}

abbrev pub state_after : PlacementState → RunEvent → PlacementState
state_after s (Steps event now) = (placement_step s event now).state
state_after s (Restarts now) = placement_restarted s now

-- the state to which a run of steps and restarts leads
abbrev pub run_state : PlacementState → List RunEvent → PlacementState
run_state s [] = s
run_state s (e ∷ es) = run_state (state_after s e) es

-- in no room can a stage go on or a round start
abbrev pub AreSettled : List SpaceRoom → Type 0
AreSettled [] = Unit {0}
AreSettled (r ∷ rs) = IsSettled r.room × AreSettled rs

abbrev pub space_of : SpaceRoom → List ℕ
space_of r = r.space

-- rooms in byte order of space, at most 64
pub record AreRooms (rooms : List SpaceRoom) : Type 0 where
  pub ascend : Ascends space_of rooms
  pub few : length rooms ≤ most_spaces

-- the record of the event
abbrev pub record_after : PlacementState → RunEvent → List EntryOf
record_after s (Steps event now) = placement_record s event now
record_after s (Restarts now) = placement_restart_record s now

-- an event that has nothing to record leaves no record
abbrev pub and_then : List EntryOf → List (List EntryOf) → List (List EntryOf)
and_then [] rs = rs
and_then (e ∷ es) rs = (e ∷ es) ∷ rs

-- the records that a run leaves, in their order
abbrev pub run_records : PlacementState → List RunEvent → List (List EntryOf)
run_records s [] = []
run_records s (e ∷ es) = and_then (record_after s e) (run_records (state_after s e) es)

-- the same spaces, and a restart keeps the same of each room
abbrev pub SameRooms : List SpaceRoom → List SpaceRoom → Type 0
SameRooms [] [] = Unit {0}
SameRooms [] (t ∷ ts) = ⊥
SameRooms (r ∷ rs) [] = ⊥
SameRooms (r ∷ rs) (t ∷ ts) = (t.space ≡ r.space) × SameDurableState r.room t.room × SameRooms rs ts
