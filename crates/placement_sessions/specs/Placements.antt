-- The frames of a placement: which event a frame is, and which frame a reply. Own.
use Rattle.std.specs.Prelude.{ℕ, Bool, true, false, option_map, Option, Some, None}
use Rattle.frame_wire.specs.declared.frame.Frame.{Frame}
use Rattle.frame_wire.specs.declared.frame.Frame.TheVariants as frames
use Rattle.frame_wire.specs.declared.refusal.Refusal.{Refusal}
use Rattle.frame_wire.specs.declared.refusal.Refusal.TheVariants as refusals
use Rattle.round_core.specs.declared.event.PlaceEvent.{PlaceEvent}
use Rattle.round_core.specs.declared.event.PlaceEvent.TheVariants.{Register, Beat, Ack, Leave}
use Rattle.placement_node.specs.declared.reply.NodeEvent.{NodeEvent}
use Rattle.placement_node.specs.declared.reply.NodeReply.{NodeReply}
use Rattle.placement_node.specs.declared.reply.NodeReply.TheVariants.{Message, Seen, Ticked}

-- what a frame asks of the placement; the frames that it sends itself, and those of the store, ask nothing of it
abbrev pub place_event : Frame → Option PlaceEvent
place_event (frames.Register host) = Some (Register host)
place_event (frames.Beat member) = Some (Beat member)
place_event (frames.Ack member stage version) = Some (Ack member stage version)
place_event (frames.Leave member) = Some (Leave member)
place_event frame = None

-- the event of a frame that comes at this moment
abbrev pub node_event : Frame → ℕ → Option NodeEvent
node_event frame now = option_map (λ (event : PlaceEvent). record { event = event; now = now }) (place_event frame)

-- the frame of a reply; no frame asks for what a Look or a Tick is answered
abbrev pub node_answer : NodeReply → Option Frame
node_answer (Message frame) = Some frame
node_answer (Seen rooms) = None
node_answer (Ticked dropped) = None

-- whether a refusal says that the node has lost its disk
abbrev pub loses_disk : Refusal → Bool
loses_disk refusals.DiskFault = true
loses_disk refusals.Reopen = true
loses_disk refusal = false

abbrev pub frame_breaks : Frame → Bool
frame_breaks (frames.Refused refusal) = loses_disk refusal
frame_breaks frame = false

-- whether a session ends after this reply
abbrev pub node_breaks : NodeReply → Bool
node_breaks (Message frame) = frame_breaks frame
node_breaks (Seen rooms) = false
node_breaks (Ticked dropped) = false
