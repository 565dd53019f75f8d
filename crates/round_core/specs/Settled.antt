-- States in which rounds have nothing left to do, and replies that refuse. Own.
use Rattle.std.specs.Prelude.{◌≡◌, false}
use Rattle.round_core.specs.declared.event.PlaceReply.{PlaceReply}
use Rattle.round_core.specs.declared.event.PlaceReply.TheVariants as replies
use Rattle.round_core.specs.Room.{RoomState, advance_round, may_start}

-- no stage can go on, and no round can start
pub record IsSettled (s : RoomState) : Type 0 where
  pub waits : advance_round s ≡ s
  pub idles : may_start s ≡ false

abbrev pub IsRefusal : PlaceReply → Type 0
IsRefusal (replies.StaleBoot greatest) = Unit {0}
IsRefusal (replies.NodeBusy boot) = Unit {0}
IsRefusal (replies.NotMember greatest) = Unit {0}
IsRefusal (replies.SpacesFull spaces) = Unit {0}
IsRefusal (replies.Full members nodes) = Unit {0}
IsRefusal reply = ⊥
