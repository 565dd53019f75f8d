-- Values that frames and payloads can carry. Own.
use Rattle.std.specs.Prelude.{ℕ, ◌≤◌, List, length}
use Rattle.std.specs.List.{AllByRecursion}
use Rattle.wire_fields.specs.Parts.{space_name, counter, small, member as member_field, host as host_field}
use Rattle.frame_wire.specs.Frames.{payload as frame_field}
use Rattle.placement_payloads.specs.Payloads.{local_host, entry as entry_field}
use Rattle.round_core.specs.declared.event.PlaceEvent.{PlaceEvent}
use Rattle.round_core.specs.declared.event.PlaceEvent.TheVariants as events
use Rattle.round_core.specs.declared.event.PlaceReply.{PlaceReply}
use Rattle.round_core.specs.declared.event.PlaceReply.TheVariants as replies
use Rattle.round_core.specs.Room.{RoomState}
use Rattle.placement_core.specs.Entries.{EntryOf}
use Rattle.placement_core.specs.Placement.{SpaceRoom, PlacementState}
use Rattle.placement_node.specs.declared.reply.NodeReply.{NodeReply}
use Rattle.placement_node.specs.declared.reply.NodeReply.TheVariants.{Message, Seen, Ticked}
use Rattle.placement_node.specs.Records.{spelled_entry}

-- the host or the member of an event has the form and the ranges that it has in frames
abbrev pub EventFits : PlaceEvent → Type 0
EventFits (events.Register host) = host_field.Fits host
EventFits (events.Beat member) = member_field.Fits member
EventFits (events.Ack member stage version) = member_field.Fits member
EventFits (events.Leave member) = member_field.Fits member
EventFits (events.Lost member) = member_field.Fits member
EventFits events.Tick = Unit {0}
EventFits events.Look = Unit {0}

-- what a room keeps can be spelled as that of this space
pub record RoomFits (space : List ℕ) (room : RoomState) : Type 0 where
  pub members : AllByRecursion (λ j. (local_host space).Fits j.host) room.members
  pub few : length room.members ≤ 256
  pub table : AllByRecursion (local_host space).Fits room.table
  pub few_hosts : length room.table ≤ 256
  pub boots : AllByRecursion (λ k. counter.Fits k.greatest) room.boots
  pub version : counter.Fits room.next_version

abbrev pub SpaceFits : SpaceRoom → Type 0
SpaceFits r = space_name.Fits r.space × RoomFits r.space r.room

abbrev pub RoomsFit : List SpaceRoom → Type 0
RoomsFit rooms = AllByRecursion SpaceFits rooms

abbrev pub StateFits : PlacementState → Type 0
StateFits s = RoomsFit s.rooms

-- a record can be spelled
pub record RecordFits (es : List EntryOf) : Type 0 where
  pub few : length es ≤ 64
  pub each : AllByRecursion (λ e. entry_field.Fits (spelled_entry e)) es

-- a message may be sent
abbrev pub ReplyFits : NodeReply → Type 0
ReplyFits (Message frame) = frame_field.Fits frame
ReplyFits (Seen rooms) = Unit {0}
ReplyFits (Ticked dropped) = Unit {0}

-- the numbers of a reply have the ranges that they have in frames
abbrev pub NumbersFit : PlaceReply → Type 0
NumbersFit (replies.Lock version) = counter.Fits version
NumbersFit (replies.Update version) = counter.Fits version
NumbersFit (replies.Unlock version) = counter.Fits version
NumbersFit replies.Idle = Unit {0}
NumbersFit replies.Gone = Unit {0}
NumbersFit (replies.Ticked dropped) = Unit {0}
NumbersFit replies.Looked = Unit {0}
NumbersFit (replies.StaleBoot greatest) = counter.Fits greatest
NumbersFit (replies.NodeBusy boot) = counter.Fits boot
NumbersFit (replies.NotMember greatest) = counter.Fits greatest
NumbersFit (replies.SpacesFull spaces) = small.Fits spaces
NumbersFit (replies.Full members nodes) = small.Fits members
NumbersFit replies.OutOfMemory = Unit {0}
