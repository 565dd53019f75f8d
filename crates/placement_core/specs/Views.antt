-- What contracts see of a placement: its state, and what the last step has to record.
use Rattle.std.specs.Prelude.{◌≡◌, ◌<◌, ℕ, List, [], length, Option, None, Some}
use Rattle.std.specs.List.{slice_get}
use Rattle.round_core.specs.declared.event.PlaceEvent.{PlaceEvent}
use Rattle.round_core.specs.declared.event.PlaceEvent.TheVariants as events
use Rattle.round_core.specs.declared.event.PlaceReply.{PlaceReply}
use Rattle.round_core.specs.declared.event.PlaceReply.TheVariants as replies
use Rattle.round_core.specs.Room.{RoomState, room_step}
use Rattle.round_core.specs.Records.{record_of, step_record}
use Rattle.placement_core.specs.declared.entry.RoomEntry.{RoomEntry}
use Rattle.placement_core.specs.Entries.{EntryOf, noted, placement_record}
use Rattle.placement_core.specs.Placement.{SpaceRoom, PlacementState, room_at, put_room, placement_step}

pub record PlacementView : Type 0 where
  pub state : PlacementState
  pub recent : List EntryOf

-- the entry that is lent
abbrev pub lent_entry : RoomEntry → EntryOf
lent_entry e = record { space = e.space; change = record_of e.change.now }

-- what a step gives: the reply and the state of the definition
abbrev pub Gives : PlaceEvent → ℕ → PlaceReply → PlacementState → PlacementState → Type 0
Gives event now reply old new = (reply ≡ (placement_step old event now).reply) × (new ≡ (placement_step old event now).state)

-- the same, but if memory runs out the state is as before
abbrev pub GivesInMemory : PlaceEvent → ℕ → PlaceReply → PlacementState → PlacementState → Type 0
GivesInMemory event now replies.OutOfMemory old new = new ≡ old
GivesInMemory event now reply old new = Gives event now reply old new

-- only a Register may run out of memory
abbrev pub GivesStep : PlaceEvent → ℕ → PlaceReply → PlacementState → PlacementState → Type 0
GivesStep (events.Register host) now reply old new = GivesInMemory (events.Register host) now reply old new
GivesStep event now reply old new = Gives event now reply old new

-- ---- what a step has to record

-- nothing, if memory ran out
abbrev pub LeavesInMemory : PlaceReply → List EntryOf → List EntryOf → Type 0
LeavesInMemory replies.OutOfMemory entries recent = recent ≡ []
LeavesInMemory reply entries recent = recent ≡ entries

-- only a Register may run out of memory
abbrev pub LeavesAny : PlaceEvent → PlaceReply → List EntryOf → List EntryOf → Type 0
LeavesAny (events.Register host) reply entries recent = LeavesInMemory reply entries recent
LeavesAny event reply entries recent = recent ≡ entries

-- the record of the definition
abbrev pub LeavesRecord : PlaceEvent → ℕ → PlaceReply → PlacementState → List EntryOf → Type 0
LeavesRecord event now reply old recent = LeavesAny event reply (placement_record old event now) recent

-- an event of a member of this space, which makes no room
abbrev pub IsOfMember : PlaceEvent → List ℕ → Type 0
IsOfMember (events.Register host) space = ⊥
IsOfMember (events.Beat m) space = space ≡ m.space
IsOfMember (events.Ack m stage version) space = space ≡ m.space
IsOfMember (events.Leave m) space = space ≡ m.space
IsOfMember (events.Lost m) space = space ≡ m.space
IsOfMember events.Tick space = ⊥
IsOfMember events.Look space = ⊥

-- the space of the member whose event it is, if it is a member's
abbrev pub ActsIn : PlaceEvent → Option (List ℕ) → Type 0
ActsIn event (Some space) = IsOfMember event space
ActsIn (events.Register host) None = Unit {0}
ActsIn events.Tick None = Unit {0}
ActsIn events.Look None = Unit {0}
ActsIn event None = ⊥

-- there is a room at the index `at`, and in it a member at the index `member`
abbrev pub IsMemberPlace : List SpaceRoom → ℕ → ℕ → Type 0
IsMemberPlace rooms at member = (at < length rooms) × ((r : SpaceRoom) → slice_get rooms at ≡ Some r → member < length r.room.members)

-- ---- a step in the room of a space

abbrev pub StepsRoom : PlaceEvent → ℕ → List ℕ → RoomState → PlaceReply → List SpaceRoom → List SpaceRoom → Type 0
StepsRoom event now space room reply old new = (reply ≡ (room_step room event now).reply) × (new ≡ put_room old space (room_step room event now).state)

abbrev pub StepsInMemory : PlaceEvent → ℕ → List ℕ → RoomState → PlaceReply → List SpaceRoom → List SpaceRoom → Type 0
StepsInMemory event now space room replies.OutOfMemory old new = new ≡ old
StepsInMemory event now space room reply old new = StepsRoom event now space room reply old new

abbrev pub StepsAny : PlaceEvent → ℕ → List ℕ → RoomState → PlaceReply → List SpaceRoom → List SpaceRoom → Type 0
StepsAny (events.Register host) now space room reply old new = StepsInMemory (events.Register host) now space room reply old new
StepsAny event now space room reply old new = StepsRoom event now space room reply old new

pub record HasStepped (event : PlaceEvent) (now : ℕ) (space : List ℕ) (reply : PlaceReply) (old new : List SpaceRoom) : Type 0 where
  pub room : RoomState
  pub is : room_at old space ≡ Some room
  pub steps : StepsAny event now space room reply old new

-- the space has no room and nothing has changed, or the event happened in its room
abbrev pub Steps : PlaceEvent → ℕ → List ℕ → Option PlaceReply → List SpaceRoom → List SpaceRoom → Type 0
Steps event now space None old new = (room_at old space ≡ None) × (new ≡ old)
Steps event now space (Some reply) old new = HasStepped event now space reply old new

-- nothing to record without a room, otherwise what the room of the space has to
abbrev pub LeavesEntry : PlaceEvent → ℕ → List ℕ → Option PlaceReply → List SpaceRoom → List EntryOf → Type 0
LeavesEntry event now space None old recent = recent ≡ []
LeavesEntry event now space (Some reply) old recent = (room : RoomState) → room_at old space ≡ Some room → LeavesAny event reply (noted space (step_record room event now)) recent
