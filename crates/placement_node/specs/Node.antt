-- A placement with its journal, and its step. Own.
use Rattle.std.specs.Prelude.{◌≡◌, ℕ, true, false, List, [], ◌∷◌, Some, Ok, Err}
use Rattle.frame_wire.specs.declared.refusal.Refusal.TheVariants as refusals
use Rattle.tx_journal.specs.declared.error.JournalError.TheVariants as faults
use Rattle.tx_journal.specs.Calls.{JournalState, append_refusal}
use Rattle.tx_journal.specs.Runs.{Answer, AppendMoves}
use Rattle.placement_core.specs.Entries.{placement_record}
use Rattle.placement_core.specs.Placement.{PlacementState, PlacementStep, placement_step}
use Rattle.placement_core.specs.Runs.{AreRooms}
use Rattle.placement_node.specs.declared.reply.NodeEvent.{NodeEvent}
use Rattle.placement_node.specs.declared.reply.NodeReply.{NodeReply}
use Rattle.placement_node.specs.Ranges.{EventFits, ReplyFits}
use Rattle.placement_node.specs.Records.{payloads_of}
use Rattle.placement_node.specs.Replies.{event_space, refused, reply_of, Outcome, Done, NoMemory, NoRoom, Failed, Shut, outcome_of}

pub record NodeState : Type 0 where
  pub state : PlacementState
  pub journal : JournalState

-- the step of the placement
abbrev pub stepped : NodeState → NodeEvent → PlacementStep
stepped n e = placement_step n.state e.event e.now

-- what has to be in the journal before its reply: at most one payload
abbrev pub payloads_for : NodeState → NodeEvent → List (List ℕ)
payloads_for n e = payloads_of (placement_record n.state e.event e.now)

-- its reply
abbrev pub reply_to : NodeState → NodeEvent → NodeReply
reply_to n e = reply_of (stepped n e).state (event_space e.event) (stepped n e).reply

-- the payload, if there is one, went to the journal in an append with this answer
abbrev pub Appended : List (List ℕ) → Answer → JournalState → JournalState → Type 0
Appended [] answer old new = new ≡ old
Appended (payload ∷ payloads) answer old new = AppendMoves payload answer old new

-- the step is done: its record was written, and then it was answered; the rooms are still in order, at most 64
pub record Steps (old : NodeState) (event : NodeEvent) (reply : NodeReply) (new : NodeState) : Type 0 where
  pub replies : reply ≡ reply_to old event
  pub state : new.state ≡ (stepped old event).state
  pub written : Appended (payloads_for old event) (Ok tt) old.journal new.journal
  pub rooms : AreRooms new.state.rooms

-- the journal has no room for the record
pub record IsFullFor (old : NodeState) (event : NodeEvent) (len : ℕ) : Type 0 where
  pub payload : List ℕ
  pub is : payloads_for old event ≡ payload ∷ []
  pub full : append_refusal old.journal payload ≡ Some (faults.Full len)

-- the disk failed while the record was written
pub record Fails (old : NodeState) (event : NodeEvent) (new : NodeState) : Type 0 where
  pub payload : List ℕ
  pub is : payloads_for old event ≡ payload ∷ []
  pub state : new.state ≡ old.state
  pub written : AppendMoves payload (Err faults.DiskFault) old.journal new.journal

-- a step of a node that has met no fault, by what came of it
abbrev pub Works : NodeState → NodeEvent → NodeReply → NodeState → Outcome → Type 0
Works old event reply new Done = Steps old event reply new
Works old event reply new NoMemory = new ≡ old
Works old event reply new (NoRoom len) = IsFullFor old event len × (new ≡ old)
Works old event reply new Failed = Fails old event new
Works old event reply new Shut = ⊥

-- What a node may answer, and what it is then. After a fault it answers that it must be opened again, and nothing
-- changes.
pub record NodeMoves (old : NodeState) (event : NodeEvent) (reply : NodeReply) (new : NodeState) : Type 0 where
  pub shut : old.journal.is_broken ≡ true → (reply ≡ refused refusals.Reopen) × (new ≡ old)
  pub works : old.journal.is_broken ≡ false → Works old event reply new (outcome_of reply)

-- what the step of a machine allows: such a move, with a reply that may be sent, by an event whose host or member fits
-- a frame
abbrev pub NodeAllows : NodeState → NodeEvent → NodeReply → NodeState → Type 0
NodeAllows old event reply new = NodeMoves old event reply new × ReplyFits reply × EventFits event.event
