-- What a node answers. Own.
use Rattle.std.specs.Prelude.{◌≡◌, ◌⊎◌, ℕ, List, [], ◌∷◌, map, if◌then◌else◌, Option, None, Some}
use Rattle.actor_names.specs.Names.{default_space}
use Rattle.frame_wire.specs.declared.frame.Frame.{Frame}
use Rattle.frame_wire.specs.declared.frame.Frame.TheVariants as frames
use Rattle.frame_wire.specs.declared.refusal.Refusal.{Refusal}
use Rattle.frame_wire.specs.declared.refusal.Refusal.TheVariants as refusals
use Rattle.member_roster.specs.Members.{Joined, hosts_of}
use Rattle.place_table.specs.declared.host.HostInfo.{HostInfo}
use Rattle.round_core.specs.declared.event.PlaceEvent.{PlaceEvent}
use Rattle.round_core.specs.declared.event.PlaceEvent.TheVariants as events
use Rattle.round_core.specs.declared.event.PlaceReply.{PlaceReply}
use Rattle.round_core.specs.declared.event.PlaceReply.TheVariants as replies
use Rattle.round_core.specs.declared.phase.RoundPhase.{RoundPhase}
use Rattle.round_core.specs.declared.phase.RoundPhase.TheVariants.{Quiet, Running}
use Rattle.round_core.specs.Room.{RoomState, last_version}
use Rattle.placement_core.specs.Placement.{SpaceRoom, PlacementState, room_of}
use Rattle.placement_node.specs.declared.reply.NodeReply.{NodeReply}
use Rattle.placement_node.specs.declared.reply.NodeReply.TheVariants.{Message, Seen, Ticked}
use Rattle.placement_node.specs.declared.reply.Awaited.{Awaited}
use Rattle.placement_node.specs.declared.reply.RoomSeen.{RoomSeen}
use Rattle.placement_node.specs.declared.reply.RoundSeen.{RoundSeen}

-- the space whose room an event is about; `default` for a Tick and a Look, which are about all rooms
abbrev pub event_space : PlaceEvent → List ℕ
event_space (events.Register host) = host.member.space
event_space (events.Beat member) = member.space
event_space (events.Ack member stage version) = member.space
event_space (events.Leave member) = member.space
event_space (events.Lost member) = member.space
event_space events.Tick = default_space
event_space events.Look = default_space

abbrev pub refused : Refusal → NodeReply
refused refusal = Message (frames.Refused refusal)

-- how a member that a round waits for is told, by its host
abbrev pub awaited : HostInfo → Awaited
awaited h = record { node = h.member.node; boot = h.member.boot; address = h.address }

-- the members that haven't acknowledged the stage of the round
abbrev pub awaited_of : List Joined → List Awaited
awaited_of [] = []
awaited_of (j ∷ js) = if j.pending then awaited j.host ∷ awaited_of js else awaited_of js

-- what is seen of the round of a room in this phase
abbrev pub seen_round : RoomState → RoundPhase → Option RoundSeen
seen_round s Quiet = None
seen_round s (Running stage) = Some (record { version = last_version s; stage = stage; awaited = awaited_of s.members })

-- what is seen of a room: its members' hosts, the last version that it used, and the round that runs
abbrev pub seen_room : SpaceRoom → RoomSeen
seen_room r = record { space = r.space; members = hosts_of r.room.members; version = last_version r.room; round = seen_round r.room r.room.phase }

-- a reply of the placement, as the node gives it: an Update has the hosts of the table that was fixed last
abbrev pub reply_of : PlacementState → List ℕ → PlaceReply → NodeReply
reply_of s space (replies.Lock version) = Message (frames.Lock version)
reply_of s space (replies.Update version) = Message (frames.Update version (room_of s space).table)
reply_of s space (replies.Unlock version) = Message (frames.Unlock version)
reply_of s space replies.Idle = Message frames.Idle
reply_of s space replies.Gone = Message frames.Gone
reply_of s space (replies.Ticked dropped) = Ticked dropped
reply_of s space replies.Looked = Seen (map seen_room s.rooms)
reply_of s space (replies.StaleBoot greatest) = refused (refusals.StaleBoot greatest)
reply_of s space (replies.NodeBusy boot) = refused (refusals.NodeBusy boot)
reply_of s space (replies.NotMember greatest) = refused (refusals.NotMember greatest)
reply_of s space (replies.SpacesFull spaces) = refused (refusals.SpacesFull spaces)
reply_of s space (replies.Full members nodes) = refused (refusals.Full members)
reply_of s space replies.OutOfMemory = refused refusals.OutOfMemory

-- what came of a step
pub data Outcome : Type 0 where
  Done : Outcome  -- the placement made its step, and this is its reply
  NoMemory : Outcome
  NoRoom : (len : ℕ) → Outcome  -- the journal of this length had no room for the record
  Failed : Outcome  -- the disk failed
  Shut : Outcome  -- the disk failed before

abbrev pub refusal_outcome : Refusal → Outcome
refusal_outcome (refusals.StaleBoot greatest) = Done
refusal_outcome (refusals.NodeBusy boot) = Done
refusal_outcome (refusals.NotMember greatest) = Done
refusal_outcome (refusals.Full members) = Done
refusal_outcome refusals.DiskFault = Failed
refusal_outcome refusals.Reopen = Shut
refusal_outcome refusals.OutOfMemory = NoMemory
refusal_outcome (refusals.JournalFull len) = NoRoom len
refusal_outcome (refusals.SpacesFull spaces) = Done

abbrev pub frame_outcome : Frame → Outcome
frame_outcome (frames.Refused refusal) = refusal_outcome refusal
frame_outcome frame = Done

-- the outcome that a reply tells
abbrev pub outcome_of : NodeReply → Outcome
outcome_of (Message frame) = frame_outcome frame
outcome_of (Seen rooms) = Done
outcome_of (Ticked dropped) = Done

-- the answer to a Look: all rooms, or that there was no memory
abbrev pub LooksAt : PlacementState → NodeReply → Type 0
LooksAt s reply = (reply ≡ Seen (map seen_room s.rooms)) ⊎ (reply ≡ refused refusals.OutOfMemory)
