-- What the placement's reply means to a sidecar. Own.
use Rattle.std.specs.Prelude.{◌≡◌, ℕ, Bool, true, false, bytes_eq, if◌then◌else◌, List, [], ◌∷◌, Option, Some, None, IsPermutation}
use Rattle.place_table.specs.declared.host.HostInfo.{HostInfo}
use Rattle.place_table.specs.Hosts.{PlacementTable}
use Rattle.place_table.specs.Tables.{IsNodeSorted}
use Rattle.part_model.specs.declared.ack.Ack.{Ack}
use Rattle.round_core.specs.declared.event.PlaceReply.TheVariants as places
use Rattle.frame_wire.specs.declared.frame.Frame.{Frame}
use Rattle.frame_wire.specs.declared.frame.Frame.TheVariants as frames
use Rattle.frame_wire.specs.declared.refusal.Refusal.{Refusal}
use Rattle.frame_wire.specs.declared.refusal.Refusal.TheVariants as refusals
use Rattle.sidecar_node.specs.declared.rounds.RoundEvent.{RoundEvent}
use Rattle.sidecar_node.specs.declared.rounds.RoundEvent.TheVariants as rounds
use Rattle.placement_beats.specs.declared.book.TurnEnd.{TurnEnd}
use Rattle.placement_beats.specs.declared.book.TurnEnd.TheVariants.{Next, Refused, NodeRefused}

-- the hosts are of another space than this one; those of one frame are of one space
abbrev pub is_foreign : List ℕ → List HostInfo → Bool
is_foreign space [] = false
is_foreign space (h ∷ hs) = if bytes_eq h.member.space space then false else true

-- the byte at which a frame is no reply to a member of this space: its kind, or the first host of another space
abbrev pub reply_fault : List ℕ → Frame → Option ℕ
reply_fault space (frames.Lock version) = None
reply_fault space (frames.Update version hosts) = if is_foreign space hosts then Some 15 else None
reply_fault space (frames.Unlock version) = None
reply_fault space frames.Idle = None
reply_fault space (frames.Refused refusal) = None
reply_fault space frames.Gone = None
reply_fault space frame = Some 4

-- how a turn ends by a refusal
abbrev pub refused_end : Refusal → TurnEnd
refused_end (refusals.StaleBoot greatest) = Refused (places.StaleBoot greatest)
refused_end (refusals.NodeBusy boot) = Refused (places.NodeBusy boot)
refused_end (refusals.NotMember greatest) = Refused (places.NotMember greatest)
refused_end (refusals.Full members) = Refused (places.Full members 0)
refused_end refusals.DiskFault = NodeRefused 5 0
refused_end refusals.Reopen = NodeRefused 6 0
refused_end refusals.OutOfMemory = Refused places.OutOfMemory
refused_end (refusals.JournalFull len) = NodeRefused 8 len
refused_end (refusals.SpacesFull spaces) = Refused (places.SpacesFull spaces)

-- how a turn ends by a reply
abbrev pub reply_end : Frame → TurnEnd
reply_end (frames.Refused refusal) = refused_end refusal
reply_end frame = Next

-- the last acknowledgement sent and not refused, after this one was sent, if one was, and this reply came
abbrev pub acked_after : Option Ack → Option Ack → Frame → Option Ack
acked_after acked sent (frames.Refused refusal) = acked
acked_after acked None frame = acked
acked_after acked (Some ack) frame = Some ack

-- the table of these hosts
pub record IsTableOf (space : List ℕ) (version : ℕ) (hosts : List HostInfo) (table : PlacementTable) : Type 0 where
  pub space_is : table.space ≡ space
  pub version_is : table.version ≡ version
  pub hosts_are : IsPermutation hosts table.hosts
  pub sorted : IsNodeSorted table.hosts

-- the event that a reply has for each part at a moment, if it has one
abbrev pub Orders : List ℕ → ℕ → Frame → Option RoundEvent → Type 0
Orders space now (frames.Lock version) order = order ≡ Some (rounds.Lock version)
Orders space now (frames.Update version hosts) order = (table : PlacementTable) × IsTableOf space version hosts table × (order ≡ Some (rounds.Update table now))
Orders space now (frames.Unlock version) order = order ≡ Some (rounds.Unlock version)
Orders space now frame order = order ≡ None
