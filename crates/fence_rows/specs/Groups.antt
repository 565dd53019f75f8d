-- A fenced store over a history of a gate at which it is given lists. Own.
use Rattle.std.specs.Prelude.{◌≡◌, ◌⊎◌, ◌≤◌, ℕ, true, false, List, [], ◌∷◌, ◌++◌, length, map, Option, None, Some}
use Rattle.std.specs.List.{AllByRecursion}
use Rattle.actor_names.specs.declared.actor_key.ActorKey.{ActorKey}
use Rattle.frame_wire.specs.declared.store_answer.StoreAnswer.TheVariants.{Refused}
use Rattle.frame_wire.specs.declared.store_refusal.StoreRefusal.TheVariants as refusals
use Rattle.group_gate.specs.declared.view.Asked.{Asked}
use Rattle.group_gate.specs.declared.view.GroupEntry.{GroupEntry}
use Rattle.group_gate.specs.History.{HistoryLeadsTo as GroupLeadsTo}
use Rattle.step_gate.specs.declared.view.HistoryEntry.{HistoryEntry}
use Rattle.step_gate.specs.History.{HistoryLeadsTo, entry}
use Rattle.store_tables.specs.Tables.{Tables}
use Rattle.tx_journal.specs.declared.error.JournalError.TheVariants as errors
use Rattle.tx_journal.specs.Calls.{Side, JournalState}
use Rattle.store_core.specs.declared.events.CompactEnd.TheVariants as ends
use Rattle.store_core.specs.Compacts.{Compacts}
use Rattle.store_core.specs.Runs.{Stands}
use Rattle.store_core.specs.Store.{StoreState, Leaves, Risks}
use Rattle.fence_rows.specs.declared.event.FencedAnswer.TheVariants as fence
use Rattle.fence_rows.specs.declared.event.FencedEvent.{FencedEvent}
use Rattle.fence_rows.specs.declared.event.FencedEvent.TheVariants.{Command, Compact}
use Rattle.fence_rows.specs.declared.event.FencedOutcome.{FencedOutcome}
use Rattle.fence_rows.specs.declared.event.FencedOutcome.TheVariants.{Answer, CompactIs}
use Rattle.fence_rows.specs.Epochs.{epoch_entry, actor_epoch}
use Rattle.fence_rows.specs.Fences.{HasShortEpoch, FencedMoves}
use Rattle.fence_rows.specs.Runs.{FencedHistory, Runs, IsLasting, Keeps}
use Rattle.fence_rows.specs.Together.{AllowsAll}

-- lists of events with their outcomes, in order
abbrev pub GroupHistory : Type 0
GroupHistory = List (GroupEntry FencedEvent FencedOutcome)

-- they lead from one state to another
abbrev pub GroupRuns : StoreState → GroupHistory → StoreState → Type 0
GroupRuns old entries new = GroupLeadsTo AllowsAll old entries new

-- ---- one after another

-- what was asked with its answers, each for itself, in the name of the place at which it was asked
abbrev pub answered : List (Asked FencedEvent) → List FencedOutcome → FencedHistory
answered [] answers = []
answered (c ∷ cs) [] = []
answered (c ∷ cs) (answer ∷ answers) = entry c.place c.ask answer ∷ answered cs answers

-- the same for a whole history
abbrev pub singles : GroupHistory → FencedHistory
singles [] = []
singles (e ∷ es) = answered e.asks e.answers ++ singles es

-- each ask has its answer
abbrev pub HasAnswers : GroupEntry FencedEvent FencedOutcome → Type 0
HasAnswers e = length e.answers ≡ length e.asks

-- what a command is answered whose batch isn't on the disk
abbrev pub disk_failed : FencedOutcome
disk_failed = Answer (fence.Answer (Refused refusals.DiskFault))

-- these entries in their order; left out are only commands that were answered that the disk failed
abbrev pub FlatOf : FencedHistory → FencedHistory → Type 0
FlatOf [] flat = flat ≡ []
FlatOf (e ∷ es) flat = ((e.reply ≡ disk_failed) × FlatOf es flat) ⊎ ((rest : FencedHistory) × (flat ≡ e ∷ rest) × FlatOf es rest)

-- ---- without the disks

-- a disk that reports nothing
abbrev pub quiet_side : Side → Side
quiet_side side = record { told = None; faults = side.faults }

abbrev pub quiet_other : Option Side → Option Side
quiet_other None = None
quiet_other (Some side) = Some (quiet_side side)

abbrev pub quiet_journal : JournalState → JournalState
quiet_journal j = record j { live = quiet_side j.live; other = quiet_other j.other }

-- The same store over disks that report nothing. Commands that share syncs leave other moments of the disks than single
-- ones, which have a sync each; but for this, single steps lead to the same.
abbrev pub quiet : StoreState → StoreState
quiet s = record { contents = s.contents; journal = quiet_journal s.journal }

-- ---- what was foreseen

-- a step whose answer is told to nobody, so that it need not fit a frame
abbrev pub AllowsUntold : StoreState → FencedEvent → FencedOutcome → StoreState → Type 0
AllowsUntold old (Command command now) (Answer answer) new = FencedMoves old command now answer new × HasShortEpoch command
AllowsUntold old (Command command now) (CompactIs end) new = ⊥
AllowsUntold old (Compact least now) (Answer answer) new = ⊥
AllowsUntold old (Compact least now) (CompactIs end) new = Compacts least now old end new

abbrev pub RunsUntold : StoreState → FencedHistory → StoreState → Type 0
RunsUntold old entries new = HistoryLeadsTo AllowsUntold old entries new

abbrev pub events_of : FencedHistory → List FencedEvent
events_of entries = map (λ (e : HistoryEntry FencedEvent FencedOutcome). e.event) entries

-- the disk failed in a command or in a compaction
abbrev pub HasMetFault : HistoryEntry FencedEvent FencedOutcome → Type 0
HasMetFault e = (e.reply ≡ disk_failed) ⊎ (e.reply ≡ CompactIs (ends.Failed errors.DiskFault))

-- ---- at every moment

-- A part of a history on a store that has met no fault: one event, or a batch. Whatever a crash leaves at any moment of
-- it opens with the contents before it, or with those to which the same events lead one after another; so a batch is
-- there as a whole or not at all. If no fault is met, they lead there with these answers, and all is on the disk at the
-- end; otherwise each is answered that the disk failed.
pub record IsPart (old : StoreState) (part : FencedHistory) (new : StoreState) : Type 0 where
  pub foreseen : FencedHistory
  pub reached : StoreState
  pub asked : events_of foreseen ≡ events_of part
  pub leads : RunsUntold (quiet old) foreseen reached
  pub risks : Risks reached.contents old new
  pub works : new.journal.is_broken ≡ false → Runs (quiet old) part (quiet new) × Leaves new.contents new
  pub failed : new.journal.is_broken ≡ true → AllByRecursion HasMetFault part

-- one part after another; on a store that has met a fault nothing changes
abbrev pub AreParts : StoreState → List FencedHistory → StoreState → Type 0
AreParts old [] new = new ≡ old
AreParts old (part ∷ parts) new = (mid : StoreState) × (old.journal.is_broken ≡ false → IsPart old part mid) × (old.journal.is_broken ≡ true → mid ≡ old) × AreParts mid parts new

abbrev pub joined : List FencedHistory → FencedHistory
joined [] = []
joined (part ∷ parts) = part ++ joined parts

-- ---- at the end

-- The disk failed in a part of the entries: one event, or a batch of commands. Those before it lead one after another to
-- what was acknowledged, and the part leads on to what is ahead, with the answers that were foreseen. Only of the part
-- some are left out. It is empty if the disk hasn't failed.
pub record IsAhead (old : StoreState) (entries flat : FencedHistory) (known ahead : Tables) : Type 0 where
  pub before : FencedHistory
  pub part : FencedHistory
  pub behind : FencedHistory
  pub are : entries ≡ before ++ part ++ behind
  pub hit : FencedHistory
  pub flat_is : flat ≡ before ++ hit ++ behind
  pub hit_is : FlatOf part hit
  pub mid : StoreState
  pub runs : Runs (quiet old) before mid
  pub acknowledged : mid.contents ≡ known
  pub failed : AllByRecursion HasMetFault part
  pub foreseen : FencedHistory
  pub asked : events_of foreseen ≡ events_of part
  pub reached : StoreState
  pub leads : RunsUntold mid foreseen reached
  pub contents : reached.contents ≡ ahead

-- What a history of lists comes to: single steps, with the same answers, to a last state. It has what was acknowledged,
-- and unless a fault was met it is the new one. A crash at the end leaves what was acknowledged; once a fault was met,
-- perhaps what is ahead.
pub record Flattens (maybe : Tables) (old : StoreState) (entries : GroupHistory) (new : StoreState) : Type 0 where
  pub flat : FencedHistory
  pub last : StoreState
  pub ahead : Tables
  pub parts : List FencedHistory
  pub each : AllByRecursion HasAnswers entries
  pub is_flat : FlatOf (singles entries) flat
  pub runs : Runs (quiet old) flat (quiet last)
  pub keeps : Keeps maybe (quiet old) flat (quiet last)
  pub journal : last.journal ≡ new.journal
  pub works : new.journal.is_broken ≡ false → last ≡ new
  pub stands : Stands ahead last
  pub broken : old.journal.is_broken ≡ true → ahead ≡ maybe
  pub reached : old.journal.is_broken ≡ false → IsAhead old (singles entries) flat last.contents ahead
  pub are : joined parts ≡ singles entries
  pub moments : AreParts old parts new

abbrev pub FlattensGroups : Type 0
FlattensGroups = (maybe : Tables) (old new : StoreState) (entries : GroupHistory) → Stands maybe old → GroupRuns old entries new → Flattens maybe old entries new

-- ---- the epoch

-- Over every history of lists that meets no fault the epoch of an actor never falls, as over single events.
abbrev pub GroupEpochNeverFalls : Type 0
GroupEpochNeverFalls =
    (maybe : Tables) (old new : StoreState) (entries : GroupHistory) (actor : ActorKey) (before after : ℕ)
    → IsLasting before (epoch_entry actor old.contents) → Stands maybe old → GroupRuns old entries new → new.journal.is_broken ≡ false → actor_epoch actor before old.contents ≤ actor_epoch actor after new.contents

-- Nor is it lower in what a crash leaves after a fault, than at first and than in what was acknowledged.
abbrev pub AheadKeepsEpoch : Type 0
AheadKeepsEpoch =
    (old : StoreState) (entries flat : FencedHistory) (known ahead : Tables) (actor : ActorKey) (before after : ℕ)
    → IsAhead old entries flat known ahead
    → (IsLasting before (epoch_entry actor old.contents) → actor_epoch actor before old.contents ≤ actor_epoch actor after ahead)
    × (IsLasting before (epoch_entry actor known) → actor_epoch actor before known ≤ actor_epoch actor after ahead)

-- Nor in what it leaves at any moment of a part.
abbrev pub PartKeepsEpoch : Type 0
PartKeepsEpoch =
    (old new : StoreState) (part : FencedHistory) (actor : ActorKey) (before after : ℕ)
    → IsLasting before (epoch_entry actor old.contents) → (is : IsPart old part new) → actor_epoch actor before old.contents ≤ actor_epoch actor after is.reached.contents
