-- What the node's step answers to what a session gives it. Own.
use Rattle.std.specs.Prelude.{◌≡◌, ◌⊎◌, ℕ, map, Some}
use Rattle.frame_wire.specs.declared.frame.Frame.{Frame}
use Rattle.frame_wire.specs.declared.refusal.Refusal.TheVariants as refusals
use Rattle.frame_wire.specs.Frames.{payload}
use Rattle.round_core.specs.declared.event.PlaceEvent.TheVariants.{Look}
use Rattle.placement_node.specs.declared.reply.NodeEvent.{NodeEvent}
use Rattle.placement_node.specs.declared.reply.NodeReply.{NodeReply}
use Rattle.placement_node.specs.declared.reply.NodeReply.TheVariants.{Message, Seen}
use Rattle.placement_node.specs.Node.{NodeState, NodeAllows}
use Rattle.placement_node.specs.Replies.{refused, seen_room}
use Rattle.placement_sessions.specs.Placements.{node_event}

-- the reply to the event of a frame is a frame, whose fields have their forms and ranges
abbrev pub AnswersFrame : Type 0
AnswersFrame =
    (old new : NodeState) (frame : Frame) (now : ℕ) (e : NodeEvent) (r : NodeReply)
    → node_event frame now ≡ Some e → NodeAllows old e r new → (answer : Frame) × (r ≡ Message answer) × payload.Fits answer

-- a Look is answered with all rooms as they are, or with want of memory, or the node must be opened again
abbrev pub AnswersLook : Type 0
AnswersLook =
    (old new : NodeState) (e : NodeEvent) (r : NodeReply)
    → e.event ≡ Look → NodeAllows old e r new → (r ≡ Seen (map seen_room old.state.rooms)) ⊎ ((r ≡ refused refusals.OutOfMemory) ⊎ (r ≡ refused refusals.Reopen))
