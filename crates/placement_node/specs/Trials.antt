-- A step that was tried, and is given up if its record isn't written; and one that is made in place. Own.
use Rattle.std.specs.Prelude.{◌≡◌, ℕ, []}
use Rattle.actor_names.specs.declared.member.Member.{Member}
use Rattle.round_core.specs.declared.event.PlaceEvent.{PlaceEvent}
use Rattle.round_core.specs.declared.event.PlaceEvent.TheVariants as events
use Rattle.placement_core.specs.Entries.{placement_record}
use Rattle.placement_core.specs.Placement.{PlacementState, PlacementStep, placement_step}
use Rattle.placement_core.specs.Runs.{AreRooms}
use Rattle.placement_core.specs.Views.{PlacementView}
use Rattle.placement_node.specs.declared.reply.NodeReply.{NodeReply}
use Rattle.placement_node.specs.Ranges.{StateFits, RecordFits, ReplyFits}
use Rattle.placement_node.specs.Replies.{event_space, reply_of, Done, outcome_of}

-- the reply of this step, as the node gives it
abbrev pub reply_in : PlacementStep → PlaceEvent → NodeReply
reply_in step event = reply_of step.state (event_space event) step.reply

-- A Beat that changes nothing but the moment at which its member was heard: whenever it comes, this is its answer, and
-- nothing is to be recorded.
pub record IsQuiet (s : PlacementState) (event : PlaceEvent) (answer : NodeReply) : Type 0 where
  pub member : Member
  pub is : event ≡ events.Beat member
  pub answers : (now : ℕ) → answer ≡ reply_in (placement_step s event now) event
  pub unrecorded : (now : ℕ) → placement_record s event now ≡ []
  pub done : outcome_of answer ≡ Done
  pub sent : ReplyFits answer

-- the placement after the step, and the answer to it
pub record Tries (event : PlaceEvent) (now : ℕ) (s : PlacementState) (trial : PlacementView) (answer : NodeReply) : Type 0 where
  pub state : trial.state ≡ (placement_step s event now).state
  pub recent : trial.recent ≡ placement_record s event now
  pub answers : answer ≡ reply_in (placement_step s event now) event
  pub done : outcome_of answer ≡ Done
  pub rooms : AreRooms trial.state.rooms
  pub kept : StateFits trial.state
  pub record_fits : RecordFits trial.recent
  pub sent : ReplyFits answer
