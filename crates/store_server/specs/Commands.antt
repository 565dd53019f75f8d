-- The frames of a store: which event a frame is, and which frame an outcome. Own.
use Rattle.std.specs.Prelude.{ℕ, Bool, true, false, Option, Some, None}
use Rattle.frame_wire.specs.declared.frame.Frame.{Frame}
use Rattle.frame_wire.specs.declared.frame.Frame.TheVariants as frames
use Rattle.frame_wire.specs.declared.store_answer.StoreAnswer.{StoreAnswer}
use Rattle.frame_wire.specs.declared.store_answer.StoreAnswer.TheVariants as answers
use Rattle.frame_wire.specs.declared.store_command.StoreCommand.TheVariants.{Tx}
use Rattle.frame_wire.specs.declared.store_refusal.StoreRefusal.{StoreRefusal}
use Rattle.frame_wire.specs.declared.store_refusal.StoreRefusal.TheVariants as refusals
use Rattle.fence_rows.specs.declared.event.FencedAnswer.{FencedAnswer}
use Rattle.fence_rows.specs.declared.event.FencedAnswer.TheVariants as fence
use Rattle.fence_rows.specs.declared.event.FencedCommand.TheVariants as fenced
use Rattle.fence_rows.specs.declared.event.FencedEvent.{FencedEvent}
use Rattle.fence_rows.specs.declared.event.FencedEvent.TheVariants.{Command}
use Rattle.fence_rows.specs.declared.event.FencedOutcome.{FencedOutcome}
use Rattle.fence_rows.specs.declared.event.FencedOutcome.TheVariants.{Answer, CompactIs}

-- the event of a frame that comes at this moment: a transaction with an epoch, or a command without one; the frames that
-- the store sends itself, and those of the placement, ask nothing of it
abbrev pub store_event : Frame → ℕ → Option FencedEvent
store_event (frames.Command command) now = Some (Command (fenced.Plain command) now)
store_event (frames.FencedTx epoch s actor ops) now = Some (Command (fenced.Tx epoch (Tx s actor ops)) now)
store_event frame now = None

-- what a frame says of an answer: that of the store, or the refusal of the fence
abbrev pub fenced_answer : FencedAnswer → StoreAnswer
fenced_answer (fence.Answer answer) = answer
fenced_answer (fence.StaleEpoch seen) = answers.Refused (refusals.StaleEpoch seen)
fenced_answer (fence.ReservedKey op) = answers.Refused (refusals.ReservedKey op)
fenced_answer fence.Unfenced = answers.Refused refusals.Unfenced

-- the frame of an outcome; no frame asks for a compaction
abbrev pub store_answer : FencedOutcome → Option Frame
store_answer (Answer answer) = Some (frames.Answer (fenced_answer answer))
store_answer (CompactIs end) = None

-- whether a refusal says that the store has lost its disk
abbrev pub loses_disk : StoreRefusal → Bool
loses_disk refusals.DiskFault = true
loses_disk refusals.Reopen = true
loses_disk refusal = false

abbrev pub answer_breaks : FencedAnswer → Bool
answer_breaks (fence.Answer (answers.Refused refusal)) = loses_disk refusal
answer_breaks answer = false

-- whether a session ends after this outcome
abbrev pub store_breaks : FencedOutcome → Bool
store_breaks (Answer answer) = answer_breaks answer
store_breaks (CompactIs end) = false
