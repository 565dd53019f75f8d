-- Beats that change nothing but the moment at which a member was heard. Own.
use Rattle.std.specs.Prelude.{◌≡◌, ◌⊎◌, ℕ, true, false, None}
use Rattle.actor_names.specs.declared.member.Member.{Member}
use Rattle.round_core.specs.declared.event.PlaceEvent.TheVariants as events
use Rattle.round_core.specs.declared.event.PlaceReply.{PlaceReply}
use Rattle.round_core.specs.declared.event.PlaceReply.TheVariants as replies
use Rattle.round_core.specs.declared.phase.RoundPhase.TheVariants.{Quiet}
use Rattle.member_roster.specs.Members.{any_pending}
use Rattle.round_core.specs.Room.{RoomState, may_start, room_step}
use Rattle.round_core.specs.Records.{step_record}

-- no stage goes on as long as the pending members are pending, and no round starts
pub record IsResting (s : RoomState) : Type 0 where
  pub waits : (any_pending s.members ≡ true) ⊎ (s.phase ≡ Quiet)
  pub idles : may_start s ≡ false

-- what a member is told: the stage of the round, or nothing
abbrev pub IsTold : PlaceReply → Type 0
IsTold (replies.Lock version) = Unit {0}
IsTold (replies.Update version) = Unit {0}
IsTold (replies.Unlock version) = Unit {0}
IsTold replies.Idle = Unit {0}
IsTold reply = ⊥

-- whenever it comes, a Beat of this member is answered so, leaves nothing to record, and the table as it is
pub record IsQuietBeat (s : RoomState) (m : Member) (reply : PlaceReply) : Type 0 where
  pub told : IsTold reply
  pub replies : (now : ℕ) → (room_step s (events.Beat m) now).reply ≡ reply
  pub unrecorded : (now : ℕ) → step_record s (events.Beat m) now ≡ None
  pub table : (now : ℕ) → (room_step s (events.Beat m) now).state.table ≡ s.table
