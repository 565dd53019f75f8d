-- What contracts see of a placement: its state, how many members there is room for, and the record of the last step.
use Rattle.std.specs.Prelude.{◌≡◌, ℕ, Option, None}
use Rattle.round_core.specs.declared.event.PlaceEvent.{PlaceEvent}
use Rattle.round_core.specs.declared.event.PlaceEvent.TheVariants as events
use Rattle.round_core.specs.declared.event.PlaceReply.{PlaceReply}
use Rattle.round_core.specs.declared.event.PlaceReply.TheVariants as replies
use Rattle.round_core.specs.Room.{RoomState, room_step}
use Rattle.round_core.specs.Records.{RecordOf, step_record}

-- a state, and how many members there is room for
pub record RoundState : Type 0 where
  pub state : RoomState
  pub capacity : ℕ

abbrev pub with_state : RoundState → RoomState → RoundState
with_state r s = record r { state = s }

-- a placement: the state, and the part of the last step that has to be on the disk
pub record RoomView : Type 0 where
  pub state : RoomState
  pub recent : Option RecordOf

-- what a step gives: the reply and the state of the definition, and the record
abbrev pub Gives : PlaceEvent → ℕ → PlaceReply → RoomView → RoomView → Type 0
Gives event now reply old new = (reply ≡ (room_step old.state event now).reply) × (new ≡ record { state = (room_step old.state event now).state; recent = step_record old.state event now })

-- the same, but if memory runs out the state is as before, and there is nothing to record
abbrev pub GivesInMemory : PlaceEvent → ℕ → PlaceReply → RoomView → RoomView → Type 0
GivesInMemory event now replies.OutOfMemory old new = new ≡ record { state = old.state; recent = None }
GivesInMemory event now reply old new = Gives event now reply old new

-- only a Register may run out of memory
abbrev pub GivesStep : PlaceEvent → ℕ → PlaceReply → RoomView → RoomView → Type 0
GivesStep (events.Register host) now reply old new = GivesInMemory (events.Register host) now reply old new
GivesStep event now reply old new = Gives event now reply old new
