-- A command that a frame asks for may be given to the store, and is answered by what fits.
use Rattle.std.proofs.Common.{◌≡◌, ◌<◌, ◌^◌, inl, inr, ℕ, zero, suc, List, [], ◌∷◌, Some, refl, subst, lit<}
use mathlib.Core.Option as m
use lib.ListN.{get_elem?}
use Rattle.std.specs.List.{AllByRecursion}
use Rattle.actor_names.specs.declared.actor_key.ActorKey.{ActorKey}
use Rattle.state_rows.specs.declared.op.StateOp.{StateOp}
use Rattle.wire_fields.specs.Fields.{number64}
use Rattle.frame_wire.specs.declared.frame.Frame.{Frame}
use Rattle.frame_wire.specs.declared.frame.Frame.TheVariants as frames
use Rattle.frame_wire.specs.declared.store_command.Stamp.{Stamp}
use Rattle.frame_wire.specs.declared.store_command.StoreCommand.{StoreCommand}
use Rattle.frame_wire.specs.declared.store_command.StoreCommand.TheVariants.{Tx}
use Rattle.frame_wire.specs.declared.store_answer.StoreAnswer.{StoreAnswer}
use Rattle.frame_wire.specs.declared.store_answer.StoreAnswer.TheVariants.{Refused}
use Rattle.frame_wire.specs.declared.store_refusal.StoreRefusal.TheVariants as refusals
use Rattle.frame_wire.specs.Frames.{payload}
use Rattle.frame_wire.specs.Store.{command, AnswerFits}
use Rattle.frame_wire.specs.StoreParts.{store_refusal}
use Rattle.store_core.specs.Store.{StoreState}
use Rattle.fence_rows.specs.declared.event.FencedAnswer.{FencedAnswer}
use Rattle.fence_rows.specs.declared.event.FencedAnswer.TheVariants as fence
use Rattle.fence_rows.specs.declared.event.FencedCommand.{FencedCommand}
use Rattle.fence_rows.specs.declared.event.FencedCommand.TheVariants as fenced
use Rattle.fence_rows.specs.declared.event.FencedEvent.{FencedEvent}
use Rattle.fence_rows.specs.declared.event.FencedEvent.TheVariants.{Command}
use Rattle.fence_rows.specs.declared.event.FencedOutcome.{FencedOutcome}
use Rattle.fence_rows.specs.declared.event.FencedOutcome.TheVariants.{Answer, CompactIs}
use Rattle.fence_rows.specs.Fences.{FencedAnswerFits}
use Rattle.fence_rows.specs.Events.{Takes, Allows}
use Rattle.fence_rows.specs.Together.{OneByOne, SharedFits, AllowsAll}
use Rattle.frame_session.specs.Rounds.{IsReply}
use Rattle.frame_session.specs.AtGroupGate.{GroupReplies}
use Rattle.store_server.specs.Commands.{store_event, fenced_answer}
use Rattle.store_server.specs.Laws.{IsAnswered, AnswersCommands}

-- ---- what a frame asks for

command_fits : (c : StoreCommand) → payload.Fits (frames.Command c) → command.Fits c
unfolding payload command
command_fits c fits = fits

pub command_may : (c : StoreCommand) (now : ℕ) → payload.Fits (frames.Command c) → now < 253370764800000 → Takes (Command (fenced.Plain c) now)
command_may c now fits early = record { command = command_fits c fits; now = early }

transaction_fits : (epoch : ℕ) (s : Stamp) (actor : ActorKey) (ops : List StateOp) → payload.Fits (frames.FencedTx epoch s actor ops) → command.Fits (Tx s actor ops)
unfolding payload command
transaction_fits epoch s actor ops fits = fits.1

pub transaction_may : (epoch : ℕ) (s : Stamp) (actor : ActorKey) (ops : List StateOp) (now : ℕ) → payload.Fits (frames.FencedTx epoch s actor ops) → now < 253370764800000 → Takes (Command (fenced.Tx epoch (Tx s actor ops)) now)
transaction_may epoch s actor ops now fits early = (tt, record { command = transaction_fits epoch s actor ops fits; now = early })

-- ---- what it is answered

pub answer_fits : (a : StoreAnswer) → AnswerFits a → payload.Fits (frames.Answer a)
unfolding payload
answer_fits a fits = fits

pub stale_fits : (seen : ℕ) → seen < 2 ^ 64 → AnswerFits (Refused (refusals.StaleEpoch seen))
unfolding store_refusal number64
stale_fits seen short = (short, (lit< tt, refl))

pub reserved_fits : (op : ℕ) → op < 2 ^ 64 → AnswerFits (Refused (refusals.ReservedKey op))
unfolding store_refusal number64
reserved_fits op short = (short, (lit< tt, refl))

pub unfenced_fits : AnswerFits (Refused refusals.Unfenced)
unfolding store_refusal number64
unfenced_fits = ((lit< tt, refl), (lit< tt, refl))

pub fenced_fits : (answer : FencedAnswer) → FencedAnswerFits answer → AnswerFits (fenced_answer answer)
fenced_fits (fence.Answer given) fits = fits
fenced_fits (fence.StaleEpoch seen) short = stale_fits seen short
fenced_fits (fence.ReservedKey op) short = reserved_fits op short
fenced_fits fence.Unfenced u = unfenced_fits

-- the outcome of a command is an answer that fits
fitting : (old new : StoreState) (c : FencedCommand) (now : ℕ) (r : FencedOutcome) → Allows old (Command c now) r new → SharedFits r
fitting old new c now (Answer answer) a = a.1
fitting old new c now (CompactIs end) a = absurd a

-- also one of several events that are given together
fitting_each : (old new : StoreState) (es : List FencedEvent) (rs : List FencedOutcome) (k : ℕ) (c : FencedCommand) (now : ℕ) (r : FencedOutcome)
    → OneByOne old es rs new → get_elem? es k ≡ m.some (Command c now) → get_elem? rs k ≡ m.some r → SharedFits r
fitting_each old new [] rs k c now r each at given = absurd cc
fitting_each old new (e ∷ es) [] k c now r each at given = absurd cc
fitting_each old new (e ∷ es) (x ∷ xs) zero c now r each at given =
    let asked : e ≡ Command c now = cc in
    let told : x ≡ r = cc in
    fitting old each.0 c now r (subst (λ (y : FencedOutcome). Allows old (Command c now) y each.0) told (subst (λ (y : FencedEvent). Allows old y x each.0) asked each.1))
fitting_each old new (e ∷ es) (x ∷ xs) (suc k) c now r each at given = fitting_each each.0 new es xs k c now r each.2 at given

fitting_shared : (rs : List FencedOutcome) (k : ℕ) (r : FencedOutcome) → AllByRecursion SharedFits rs → get_elem? rs k ≡ m.some r → SharedFits r
fitting_shared [] k r fits given = absurd cc
fitting_shared (x ∷ xs) zero r fits given = let told : x ≡ r = cc in subst SharedFits told fits.0
fitting_shared (x ∷ xs) (suc k) r fits given = fitting_shared xs k r fits.1 given

fitting_in : (old new : StoreState) (es : List FencedEvent) (rs : List FencedOutcome) (k : ℕ) (c : FencedCommand) (now : ℕ) (r : FencedOutcome)
    → AllowsAll old es rs new → get_elem? es k ≡ m.some (Command c now) → get_elem? rs k ≡ m.some r → SharedFits r
fitting_in old new es rs k c now r (inl each) at given = fitting_each old new es rs k c now r each at given
fitting_in old new es rs k c now r (inr shared) at given = fitting_shared rs k r shared.fits given

-- the event of a frame is a command
abbrev IsCommand : FencedEvent → Type 0
IsCommand e = (c : FencedCommand) × (now : ℕ) × (e ≡ Command c now)

asks_command : (frame : Frame) (now : ℕ) (e : FencedEvent) → store_event frame now ≡ Some e → IsCommand e
asks_command (frames.Command c) now e is = (fenced.Plain c, now, cc)
asks_command (frames.FencedTx epoch s actor ops) now e is = (fenced.Tx epoch (Tx s actor ops), now, cc)
asks_command (frames.Register h) now e is = absurd cc
asks_command (frames.Beat m) now e is = absurd cc
asks_command (frames.Ack m stage version) now e is = absurd cc
asks_command (frames.Leave m) now e is = absurd cc
asks_command (frames.Lock version) now e is = absurd cc
asks_command (frames.Update version hosts) now e is = absurd cc
asks_command (frames.Unlock version) now e is = absurd cc
asks_command frames.Idle now e is = absurd cc
asks_command (frames.Refused refusal) now e is = absurd cc
asks_command frames.Gone now e is = absurd cc
asks_command (frames.Mirror command) now e is = absurd cc
asks_command (frames.Mirrored answer) now e is = absurd cc
asks_command (frames.Answer answer) now e is = absurd cc

pub command_fitting : (old new : StoreState) (es : List FencedEvent) (rs : List FencedOutcome) (frame : Frame) (now k : ℕ) (e : FencedEvent) (r : FencedOutcome)
    → store_event frame now ≡ Some e → AllowsAll old es rs new → get_elem? es k ≡ m.some e → get_elem? rs k ≡ m.some r → SharedFits r
command_fitting old new es rs frame now k e r is a at given =
    let command = asks_command frame now e is in
    fitting_in old new es rs k command.0 command.1 r a (subst (λ (y : FencedEvent). get_elem? es k ≡ m.some y) command.2 at) given

answered_by : (r : FencedOutcome) → SharedFits r → IsAnswered r
answered_by (Answer answer) fits = (answer, refl, fenced_fits answer fits)
answered_by (CompactIs end) none = absurd none

pub command_answered : AnswersCommands
command_answered old new es rs frame now k e r is a at given = answered_by r (command_fitting old new es rs frame now k e r is a at given)

-- an outcome that the store gave to a frame
pub reply_is_fitting : (r : FencedOutcome) → IsReply (GroupReplies AllowsAll) store_event r → SharedFits r
reply_is_fitting r reply = let step = reply.5 in command_fitting step.0 step.1 step.2 step.3 reply.0 reply.1 step.4 reply.2 r reply.4 step.5 step.6 step.7
