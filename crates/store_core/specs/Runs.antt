-- A store over a list of events. Own.
use Rattle.std.specs.Prelude.{◌≡◌, Bool, true, false, if◌then◌else◌, List, [], ◌∷◌, ◌++◌, Option, None, Some}
use Rattle.frame_wire.specs.declared.store_answer.StoreAnswer.{StoreAnswer}
use Rattle.frame_wire.specs.declared.store_answer.StoreAnswer.TheVariants.{Booted, Done, Value, NotThere, ReminderIs, DueList, NextIs, Refused}
use Rattle.frame_wire.specs.declared.store_command.Stamp.{Stamp}
use Rattle.frame_wire.specs.declared.store_refusal.StoreRefusal.TheVariants as refusals
use Rattle.store_tables.specs.Tables.{Tables, Outcome, Told, Accepted}
use Rattle.store_tables.specs.Contents.{Timed, outcome_of, accepted_in, after_accepted}
use Rattle.store_tables.specs.Runs.{Carries}
use Rattle.tx_journal.specs.declared.error.JournalError.TheVariants as errors
use Rattle.tx_journal.specs.Calls.{told}
use Rattle.tx_journal.specs.Pair.{Files, LeavesOpened}
use Rattle.store_core.specs.declared.events.CompactEnd.TheVariants.{Failed}
use Rattle.store_core.specs.declared.events.StoreEvent.{StoreEvent}
use Rattle.store_core.specs.declared.events.StoreEvent.TheVariants.{Command, Compact}
use Rattle.store_core.specs.declared.events.StoreOutcome.{StoreOutcome}
use Rattle.store_core.specs.declared.events.StoreOutcome.TheVariants.{Answer, CompactIs}
use Rattle.store_core.specs.Contents.{OpensWithEither}
use Rattle.store_core.specs.Store.{StoreState, Leaves, Risks}
use Rattle.store_core.specs.Events.{Allows}

-- an event with its outcome
abbrev pub Entry : Type 0
Entry = StoreEvent × StoreOutcome

-- the events, each with its outcome, lead from one state to another
abbrev pub Runs : StoreState → List Entry → StoreState → Type 0
Runs old [] new = new ≡ old
Runs old (entry ∷ entries) new = (mid : StoreState) × Allows old entry.0 entry.1 mid × Runs mid entries new

-- ---- what was acknowledged

abbrev pub is_refusal : StoreAnswer → Bool
is_refusal (Booted n) = false
is_refusal (Done existed) = false
is_refusal (Value value) = false
is_refusal NotThere = false
is_refusal (ReminderIs due period ttl payload) = false
is_refusal (DueList entries) = false
is_refusal (NextIs next) = false
is_refusal (Refused r) = true

-- a command that the contents accept, and that isn't refused by the journal, is acknowledged
abbrev pub acknowledged_by : Outcome → Timed → StoreAnswer → List Timed
acknowledged_by (Told given) c answer = []
acknowledged_by (Accepted given after) c answer = if is_refusal answer then [] else c ∷ []

-- the command that this entry acknowledged, if it did
abbrev pub acknowledged_in : Tables → StoreEvent → StoreOutcome → List Timed
acknowledged_in t (Command command now) (Answer answer) = acknowledged_by (outcome_of t (record { now = now; command = command })) (record { now = now; command = command }) answer
acknowledged_in t (Command command now) (CompactIs end) = []
acknowledged_in t (Compact least now) outcome = []

abbrev pub or_same : Tables → Option Tables → Tables
or_same t None = t
or_same t (Some after) = after

-- the contents after them
abbrev pub after_all : List Timed → Tables → Tables
after_all cs t = or_same t (after_accepted cs t)

-- the commands that were acknowledged, in order
abbrev pub acknowledged : List Entry → Tables → List Timed
acknowledged [] t = []
acknowledged (entry ∷ entries) t = acknowledged_in t entry.0 entry.1 ++ acknowledged entries (after_all (acknowledged_in t entry.0 entry.1) t)

-- ---- what a crash may leave

-- the contents that an event is about to leave, if it is accepted and not refused by the journal
abbrev pub under_way : Tables → StoreEvent → Tables
under_way t (Command command now) = or_same t (accepted_in (outcome_of t (record { now = now; command = command })))
under_way t (Compact least now) = t

abbrev pub is_fault : StoreOutcome → Bool
is_fault (Answer (Refused refusals.DiskFault)) = true
is_fault (CompactIs (Failed errors.DiskFault)) = true
is_fault outcome = false

-- what a crash may leave in place of the contents: once a fault was met, what its event was about to leave
abbrev pub maybe_left : List Entry → Tables → Tables → Tables
maybe_left [] t maybe = maybe
maybe_left (entry ∷ entries) t maybe = maybe_left entries (after_all (acknowledged_in t entry.0 entry.1) t) (if is_fault entry.1 then under_way t entry.0 else maybe)

-- What a crash leaves now opens with the contents or, once a fault was met, perhaps with those others.
pub record Stands (maybe : Tables) (s : StoreState) : Type 0 where
  pub whole : s.journal.is_broken ≡ false → Leaves s.contents s
  pub fault : s.journal.is_broken ≡ true → (files : Files) → told s.journal ≡ Some files → LeavesOpened (OpensWithEither s.contents maybe) files

-- in a step on a store that has met no fault, whatever a crash leaves at any moment opens with the contents before it,
-- or with those that the event is about to leave
abbrev pub RisksOne : StoreState → StoreEvent → StoreState → Type 0
RisksOne old event new = old.journal.is_broken ≡ false → Risks (under_way old.contents event) old new

-- the same for every step of a run
abbrev pub RisksEach : StoreState → List Entry → Type 0
RisksEach old [] = Unit {0}
RisksEach old (entry ∷ entries) = (mid : StoreState) → Allows old entry.0 entry.1 mid → RisksOne old entry.0 mid × RisksEach mid entries

-- ---- what holds of runs

-- Over every list of events the contents are what the acknowledged commands alone lead to, and a crash leaves them.
abbrev pub KeepsAcknowledged : Type 0
KeepsAcknowledged =
    (maybe : Tables) (old new : StoreState) (entries : List Entry) → Stands maybe old → Runs old entries new
    → Stands (maybe_left entries old.contents maybe) new × (after_accepted (acknowledged entries old.contents) old.contents ≡ Some new.contents)

-- A crash at any moment of a step leaves what was acknowledged before it, perhaps with the command under way.
abbrev pub RisksOneCommand : Type 0
RisksOneCommand = (old : StoreState) (entries : List Entry) → RisksEach old entries

-- No stamp is acknowledged twice, whatever comes before, between and after.
abbrev pub AcknowledgesOnce : Type 0
AcknowledgesOnce =
    (maybe : Tables) (old new : StoreState) (entries : List Entry) (s : Stamp) (c d : Timed) (before between behind : List Timed)
    → Stands maybe old → Runs old entries new → acknowledged entries old.contents ≡ before ++ c ∷ between ++ d ∷ behind → Carries s c → Carries s d → ⊥
