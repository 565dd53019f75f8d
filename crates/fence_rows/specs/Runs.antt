-- A fenced store over a history of its gate, or over any list of events with their outcomes. Own.
use Rattle.std.specs.Prelude.{◌≡◌, ◌⊎◌, ◌≤◌, ◌<◌, ℕ, true, false, List, [], ◌∷◌, ◌++◌, Option, None, Some}
use Rattle.actor_names.specs.declared.actor_key.ActorKey.{ActorKey}
use Rattle.state_rows.specs.declared.entry.StateEntry.{StateEntry}
use Rattle.state_rows.specs.declared.op.StateOp.{StateOp}
use Rattle.state_rows.specs.Entries.{is_over}
use Rattle.frame_wire.specs.declared.store_answer.StoreAnswer.{StoreAnswer}
use Rattle.frame_wire.specs.declared.store_answer.StoreAnswer.TheVariants.{NotThere, Refused}
use Rattle.frame_wire.specs.declared.store_command.StoreCommand.{StoreCommand}
use Rattle.frame_wire.specs.declared.store_command.StoreCommand.TheVariants.{Tx}
use Rattle.frame_wire.specs.declared.store_command.Stamp.{Stamp}
use Rattle.frame_wire.specs.declared.store_refusal.StoreRefusal.TheVariants.{Reopen, OutOfMemory}
use Rattle.frame_wire.specs.declared.store_refusal.StoreRefusal.TheVariants as refusals
use Rattle.step_gate.specs.declared.view.HistoryEntry.{HistoryEntry}
use Rattle.step_gate.specs.History.{HistoryLeadsTo}
use Rattle.store_tables.specs.Tables.{Tables}
use Rattle.store_tables.specs.Contents.{Timed, after_accepted}
use Rattle.store_tables.specs.Runs.{Carries, IsAccepted}
use Rattle.store_core.specs.declared.events.StoreEvent.TheVariants as store
use Rattle.store_core.specs.declared.events.StoreOutcome.TheVariants as outcomes
use Rattle.store_core.specs.Store.{StoreState, Risks}
use Rattle.store_core.specs.Runs.{Entry as StoreEntry, Runs as StoreRuns, is_refusal, acknowledged, under_way, maybe_left, Stands}
use Rattle.fence_rows.specs.declared.event.FencedAnswer.{FencedAnswer}
use Rattle.fence_rows.specs.declared.event.FencedAnswer.TheVariants.{Answer as FencedAnswerIs, StaleEpoch, ReservedKey, Unfenced}
use Rattle.fence_rows.specs.declared.event.FencedCommand.{FencedCommand}
use Rattle.fence_rows.specs.declared.event.FencedCommand.TheVariants as fenced
use Rattle.fence_rows.specs.declared.event.FencedEvent.{FencedEvent}
use Rattle.fence_rows.specs.declared.event.FencedEvent.TheVariants.{Command, Compact}
use Rattle.fence_rows.specs.declared.event.FencedOutcome.{FencedOutcome}
use Rattle.fence_rows.specs.declared.event.FencedOutcome.TheVariants.{Answer, CompactIs}
use Rattle.fence_rows.specs.Epochs.{epoch_entry, actor_epoch, EpochAtLeast}
use Rattle.fence_rows.specs.Fences.{given_command, given_at, fence_answer}
use Rattle.fence_rows.specs.Events.{Allows}

-- events with their outcomes, in order
abbrev pub FencedHistory : Type 0
FencedHistory = List (HistoryEntry FencedEvent FencedOutcome)

-- they lead from one state to another
abbrev pub Runs : StoreState → FencedHistory → StoreState → Type 0
Runs old entries new = HistoryLeadsTo Allows old entries new

-- ---- the epoch

-- there is no value at a moment, or one without a ttl
abbrev pub IsLasting : ℕ → Option StateEntry → Type 0
IsLasting now None = Unit {0}
IsLasting now (Some e) = (is_over now e.absent ≡ true) ⊎ (e.absent ≡ None)

-- Over every history the epoch of an actor never falls, from one moment to any other, if at the first one the actor
-- has no value at its key, or one without a ttl.
abbrev pub EpochNeverFalls : Type 0
EpochNeverFalls =
    (old new : StoreState) (entries : FencedHistory) (actor : ActorKey) (before after : ℕ)
    → IsLasting before (epoch_entry actor old.contents) → Runs old entries new → actor_epoch actor before old.contents ≤ actor_epoch actor after new.contents

-- what an event is about to leave, if it isn't refused
abbrev pub about_to_leave : Option FencedAnswer → Timed → Tables → Tables
about_to_leave (Some answer) c t = t
about_to_leave None c t = under_way t (store.Command c.command c.now)

abbrev pub leaves_of : StoreState → FencedEvent → Tables
leaves_of s (Command command now) = about_to_leave (fence_answer command now s) (given_at command now) s.contents
leaves_of s (Compact least now) = s.contents

-- Nor is it lower in what a crash in a step may leave in place of the contents.
abbrev pub CrashKeepsEpoch : Type 0
CrashKeepsEpoch =
    (old new : StoreState) (event : FencedEvent) (outcome : FencedOutcome) (actor : ActorKey) (before after : ℕ)
    → IsLasting before (epoch_entry actor old.contents) → Allows old event outcome new → actor_epoch actor before old.contents ≤ actor_epoch actor after (leaves_of old event)

-- ---- writes

-- the contents take the command, and the answer to it isn't a refusal
abbrev pub IsWritten : Tables → Timed → FencedAnswer → Type 0
IsWritten t c (FencedAnswerIs given) = IsAccepted t c × (is_refusal given ≡ false)
IsWritten t c answer = ⊥

-- a transaction of an actor, of an epoch or without one
abbrev pub writer_of : FencedCommand → Option ℕ
writer_of (fenced.Plain c) = None
writer_of (fenced.Tx epoch c) = Some epoch

abbrev pub command_in : FencedCommand → StoreCommand
command_in (fenced.Plain c) = c
command_in (fenced.Tx epoch c) = c

-- it has an epoch, which is at least the actor's
abbrev pub IsFencedWrite : Option ℕ → ActorKey → ℕ → Tables → Type 0
IsFencedWrite None actor now t = ⊥
IsFencedWrite (Some epoch) actor now t = EpochAtLeast epoch actor now t

-- A write is accepted only under an epoch that is at least the actor's.
abbrev pub AcceptsAtLeast : Type 0
AcceptsAtLeast =
    (old new : StoreState) (command : FencedCommand) (now : ℕ) (answer : FencedAnswer) (s : Stamp) (actor : ActorKey) (ops : List StateOp)
    → command_in command ≡ Tx s actor ops → Allows old (Command command now) (Answer answer) new → IsWritten old.contents (given_at command now) answer
    → IsFencedWrite (writer_of command) actor now old.contents

-- a refusal that names an epoch of at least this one, or the store has met a fault, or there was no memory
abbrev pub IsRefusedBelow : ℕ → FencedAnswer → Type 0
IsRefusedBelow epoch (StaleEpoch seen) = epoch ≤ seen
IsRefusedBelow epoch (FencedAnswerIs (Refused Reopen)) = Unit {0}
IsRefusedBelow epoch (FencedAnswerIs (Refused OutOfMemory)) = Unit {0}
IsRefusedBelow epoch answer = ⊥

-- Once a write was accepted, one of the actor with an earlier epoch is refused and changes nothing, whatever comes
-- between.
abbrev pub RefusesEarlier : Type 0
RefusesEarlier =
    (old mid last new : StoreState) (between : FencedHistory) (actor : ActorKey) (epoch earlier : ℕ) (s r : Stamp) (ops more : List StateOp) (now later : ℕ) (answer given : FencedAnswer)
    → Allows old (Command (fenced.Tx epoch (Tx s actor ops)) now) (Answer answer) mid → IsWritten old.contents (given_at (fenced.Tx epoch (Tx s actor ops)) now) answer
    → Runs mid between last → Allows last (Command (fenced.Tx earlier (Tx r actor more)) later) (Answer given) new
    → earlier < epoch → IsRefusedBelow epoch given × (new ≡ last)

-- ---- answers as frames

-- an answer with the store's words is none of the refusals by which a frame tells those of the fence
abbrev pub IsNoneOfFence : StoreAnswer → Type 0
IsNoneOfFence (Refused (refusals.StaleEpoch seen)) = ⊥
IsNoneOfFence (Refused (refusals.ReservedKey op)) = ⊥
IsNoneOfFence (Refused refusals.Unfenced) = ⊥
IsNoneOfFence given = Unit {0}

-- So whoever reads a frame knows whose answer it is.
abbrev pub TellsApart : Type 0
TellsApart = (old new : StoreState) (command : FencedCommand) (now : ℕ) (given : StoreAnswer) → Allows old (Command command now) (Answer (FencedAnswerIs given)) new → IsNoneOfFence given

-- ---- the store within

-- an answer that the fence gives in place of the store; none of them acknowledges a command
abbrev pub IsOfFence : FencedAnswer → Type 0
IsOfFence (FencedAnswerIs (Refused r)) = Unit {0}
IsOfFence (FencedAnswerIs NotThere) = Unit {0}
IsOfFence (FencedAnswerIs given) = ⊥
IsOfFence (StaleEpoch seen) = Unit {0}
IsOfFence (ReservedKey op) = Unit {0}
IsOfFence Unfenced = Unit {0}

-- an event was no event of the store, or this one
abbrev pub IsGiven : FencedEvent → FencedOutcome → List StoreEntry → List StoreEntry → Type 0
IsGiven (Command command now) (Answer answer) rest given =
    (IsOfFence answer × (given ≡ rest)) ⊎ ((a : StoreAnswer) × (answer ≡ FencedAnswerIs a) × (given ≡ (store.Command (given_command command) now, outcomes.Answer a) ∷ rest))
IsGiven (Command command now) (CompactIs end) rest given = ⊥
IsGiven (Compact least now) (Answer answer) rest given = ⊥
IsGiven (Compact least now) (CompactIs end) rest given = given ≡ (store.Compact least now, outcomes.CompactIs end) ∷ rest

-- the events of the store, in the order of those that led to them
abbrev pub AreGiven : FencedHistory → List StoreEntry → Type 0
AreGiven [] given = given ≡ []
AreGiven (entry ∷ entries) given = (rest : List StoreEntry) × IsGiven entry.event entry.reply rest given × AreGiven entries rest

-- What a history comes to: events of the store, whose acknowledged commands alone lead to the contents. A crash
-- leaves them, and no stamp is acknowledged twice.
pub record Keeps (maybe : Tables) (old : StoreState) (entries : FencedHistory) (new : StoreState) : Type 0 where
  pub given : List StoreEntry
  pub are : AreGiven entries given
  pub runs : StoreRuns old given new
  pub stands : Stands (maybe_left given old.contents maybe) new
  pub led : after_accepted (acknowledged given old.contents) old.contents ≡ Some new.contents
  pub once : (s : Stamp) (c d : Timed) (before between behind : List Timed) → acknowledged given old.contents ≡ before ++ c ∷ between ++ d ∷ behind → Carries s c → Carries s d → ⊥

abbrev pub KeepsAcknowledged : Type 0
KeepsAcknowledged = (maybe : Tables) (old new : StoreState) (entries : FencedHistory) → Stands maybe old → Runs old entries new → Keeps maybe old entries new

-- In a step on a store that has met no fault, whatever a crash leaves at any moment opens with the contents before it, or
-- with those that the event is about to leave.
abbrev pub RisksOneCommand : Type 0
RisksOneCommand =
    (maybe : Tables) (old mid new : StoreState) (entries : FencedHistory) (event : FencedEvent) (outcome : FencedOutcome)
    → Stands maybe old → Runs old entries mid → Allows mid event outcome new → mid.journal.is_broken ≡ false → Risks (leaves_of mid event) mid new
