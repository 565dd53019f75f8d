-- What came of a record that was to be written. Own.
use Rattle.std.specs.Prelude.{◌≡◌, ℕ, List, [], ◌∷◌, Option, None, Some, Ok, Err}
use Rattle.tx_journal.specs.declared.error.JournalError.{JournalError}
use Rattle.tx_journal.specs.declared.error.JournalError.TheVariants as faults
use Rattle.tx_journal.specs.Calls.{JournalState, append_refusal}
use Rattle.tx_journal.specs.Runs.{AppendMoves}
use Rattle.placement_core.specs.Views.{PlacementView}
use Rattle.placement_node.specs.declared.written.Kept.{Kept}
use Rattle.placement_node.specs.declared.written.Kept.TheVariants.{Done, NoMemory, NoRoom, Failed}
use Rattle.placement_node.specs.Node.{NodeState, Appended}
use Rattle.placement_node.specs.Records.{payloads_of}
use Rattle.frame_wire.specs.declared.refusal.Refusal.{Refusal}
use Rattle.frame_wire.specs.declared.refusal.Refusal.TheVariants as refusals
use Rattle.placement_node.specs.declared.reply.NodeReply.{NodeReply}
use Rattle.placement_node.specs.Replies.{refused}

abbrev pub kept_of : JournalError → Kept
kept_of faults.DiskFault = Failed
kept_of (faults.Damaged offset) = NoMemory
kept_of (faults.TooLong n) = NoMemory
kept_of (faults.Full len) = NoRoom len
kept_of faults.Reopen = NoMemory
kept_of faults.NotStarted = NoMemory
kept_of faults.OneDisk = NoMemory
kept_of (faults.Spent count) = NoMemory
kept_of faults.OutOfMemory = NoMemory

-- what came of a payload that was to be written
abbrev pub Written : List ℕ → Kept → JournalState → JournalState → Type 0
Written payload Done old new = AppendMoves payload (Ok tt) old new
Written payload NoMemory old new = new ≡ old
Written payload (NoRoom len) old new = (append_refusal old payload ≡ Some (faults.Full len)) × (new ≡ old)
Written payload Failed old new = AppendMoves payload (Err faults.DiskFault) old new

-- the same of what a step or a restart has to record: nothing, or one payload
abbrev pub AllWritten : List (List ℕ) → Kept → JournalState → JournalState → Type 0
AllWritten payloads Done old new = Appended payloads (Ok tt) old new
AllWritten payloads NoMemory old new = new ≡ old
AllWritten payloads (NoRoom len) old new = (payload : List ℕ) × (payloads ≡ payload ∷ []) × (append_refusal old payload ≡ Some (faults.Full len)) × (new ≡ old)
AllWritten payloads Failed old new = (payload : List ℕ) × (payloads ≡ payload ∷ []) × AppendMoves payload (Err faults.DiskFault) old new

-- a placement that was tried out, and that the node keeps if its record was written
abbrev pub Keeps : PlacementView → Kept → NodeState → NodeState → Type 0
Keeps trial Done old new = (new.state ≡ trial.state) × AllWritten (payloads_of trial.recent) Done old.journal new.journal
Keeps trial NoMemory old new = new ≡ old
Keeps trial (NoRoom len) old new = (new.state ≡ old.state) × AllWritten (payloads_of trial.recent) (NoRoom len) old.journal new.journal
Keeps trial Failed old new = (new.state ≡ old.state) × AllWritten (payloads_of trial.recent) Failed old.journal new.journal

-- why a step is refused whose record wasn't written
abbrev pub refusal_of : Kept → Option Refusal
refusal_of Done = None
refusal_of NoMemory = Some refusals.OutOfMemory
refusal_of (NoRoom len) = Some (refusals.JournalFull len)
refusal_of Failed = Some refusals.DiskFault

abbrev pub answered_unless : Option Refusal → NodeReply → NodeReply
answered_unless None answer = answer
answered_unless (Some refusal) answer = refused refusal

-- the answer to a step, by what came of its record
abbrev pub answered : Kept → NodeReply → NodeReply
answered kept answer = answered_unless (refusal_of kept) answer
