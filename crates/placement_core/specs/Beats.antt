-- Beats that change nothing but the moment at which a member was heard. Own.
use Rattle.std.specs.Prelude.{◌≡◌, ℕ, []}
use Rattle.actor_names.specs.declared.member.Member.{Member}
use Rattle.round_core.specs.declared.event.PlaceEvent.TheVariants as events
use Rattle.round_core.specs.declared.event.PlaceReply.{PlaceReply}
use Rattle.round_core.specs.Beats.{IsTold}
use Rattle.placement_core.specs.Entries.{placement_record}
use Rattle.placement_core.specs.Placement.{PlacementState, placement_step, room_of}

-- whenever it comes, a Beat of this member is answered so, leaves nothing to record, and the table of its space as it is
pub record IsQuietBeat (s : PlacementState) (m : Member) (reply : PlaceReply) : Type 0 where
  pub told : IsTold reply
  pub replies : (now : ℕ) → (placement_step s (events.Beat m) now).reply ≡ reply
  pub unrecorded : (now : ℕ) → placement_record s (events.Beat m) now ≡ []
  pub table : (now : ℕ) → (room_of (placement_step s (events.Beat m) now).state m.space).table ≡ (room_of s m.space).table
