-- A store and its step: its contents, and what a crash leaves of its files. Own.
use Rattle.std.specs.Prelude.{◌≡◌, ◌⊎◌, ◌+◌, ℕ, true, false, List, length, Option, None, Some}
use Rattle.disk_model.specs.Disk.{Tells}
use Rattle.frame_wire.specs.declared.store_answer.StoreAnswer.{StoreAnswer}
use Rattle.frame_wire.specs.declared.store_answer.StoreAnswer.TheVariants.{Refused}
use Rattle.frame_wire.specs.declared.store_refusal.StoreRefusal.{StoreRefusal}
use Rattle.frame_wire.specs.declared.store_refusal.StoreRefusal.TheVariants as refusals
use Rattle.store_tables.specs.Tables.{Tables, Outcome, Told, Accepted, TakesMemory}
use Rattle.store_tables.specs.Contents.{Timed, outcome_of}
use Rattle.tx_journal.specs.declared.error.JournalError.{JournalError}
use Rattle.tx_journal.specs.declared.error.JournalError.TheVariants.{DiskFault, Damaged, TooLong, Full, Reopen, NotStarted, OneDisk, Spent, OutOfMemory}
use Rattle.tx_journal.specs.Journal.{Rises}
use Rattle.tx_journal.specs.Calls.{JournalState, told, is_alone, append_refusal, generation_with, Commits, Committed}
use Rattle.tx_journal.specs.Pair.{Files, Holds, LeavesOpened, SinceOpened}
use Rattle.store_payloads.specs.Fits.{TablesFit}
use Rattle.store_payloads.specs.Payloads.{command_payload}
use Rattle.tx_journal.specs.declared.format.Format.TheVariants.{Two}
use Rattle.tx_journal.specs.File.{Image}
use Rattle.store_core.specs.Contents.{contents_of, OpensWith, OpensWithEither}

-- what a store contains, and its journal
pub record StoreState : Type 0 where
  pub contents : Tables
  pub journal : JournalState

-- unless it met a fault, what the journal holds leads to these contents
abbrev pub IsConsistent : JournalState → Tables → Type 0
IsConsistent j t = j.is_broken ≡ false → (files : Files) → told j ≡ Some files → (held : Image) × Holds held files × (contents_of held ≡ Some t)

-- the same, and it is of the second format, so that an append goes on in its form
abbrev pub IsCurrent : JournalState → Tables → Type 0
IsCurrent j t = j.is_broken ≡ false → (files : Files) → told j ≡ Some files → (held : Image) × Holds held files × (contents_of held ≡ Some t) × (held.format ≡ Two)

-- what is true of every store; it has both of its files
pub record IsWhole (j : JournalState) (t : Tables) : Type 0 where
  pub current : IsCurrent j t
  pub fits : TablesFit t
  pub paired : is_alone j.other ≡ false

-- whatever a crash leaves now opens with these contents
abbrev pub Leaves : Tables → StoreState → Type 0
Leaves t s = (files : Files) → told s.journal ≡ Some files → LeavesOpened (OpensWith t) files

-- whatever a crash leaves at any moment of the step opens with the contents before it or with these
abbrev pub Risks : Tables → StoreState → StoreState → Type 0
Risks after old new = Tells (SinceOpened (OpensWithEither old.contents after)) (told old.journal) (told new.journal)

-- nothing has changed, and whatever a crash leaves opens with the contents
abbrev pub Rests : StoreState → StoreState → Type 0
Rests old new = (new ≡ old) × Leaves old.contents old

-- an accepted command is on the disk, and answered; the live file is longer by its record
pub record IsDone (payload : List ℕ) (given : StoreAnswer) (after : Tables) (old : StoreState) (answer : StoreAnswer) (new : StoreState) : Type 0 where
  pub answer_ : answer ≡ given
  pub contents : new.contents ≡ after
  pub journal : new.journal ≡ record old.journal { live = new.journal.live; end = old.journal.end + 5 + length payload; staged = None }
  pub works : new.journal.is_broken ≡ false
  pub leaves : Leaves after new
  pub risks : Risks after old new

-- the disk failed: an accepted command is on it, or not, until the store is opened again
pub record HasFailed (after : Tables) (old : StoreState) (answer : StoreAnswer) (new : StoreState) : Type 0 where
  pub answer_ : answer ≡ Refused refusals.DiskFault
  pub contents : new.contents ≡ old.contents
  pub journal : new.journal ≡ record old.journal { live = new.journal.live; staged = None; is_broken = true }
  pub broken : new.journal.is_broken ≡ true
  pub rises : Rises old.journal.live.faults new.journal.live.faults
  pub risks : Risks after old new

-- an accepted command: refused for its length, or for that of the file, or written
abbrev pub Writes : Option JournalError → List ℕ → StoreAnswer → Tables → StoreState → StoreAnswer → StoreState → Type 0
Writes None payload given after old answer new = IsDone payload given after old answer new ⊎ HasFailed after old answer new
Writes (Some (TooLong n)) payload given after old answer new = (answer ≡ Refused (refusals.CommandTooLong n)) × Rests old new
Writes (Some (Full len)) payload given after old answer new = (answer ≡ Refused (refusals.Full len)) × Rests old new
Writes (Some Reopen) payload given after old answer new = ⊥
Writes (Some DiskFault) payload given after old answer new = ⊥
Writes (Some (Damaged offset)) payload given after old answer new = ⊥
Writes (Some NotStarted) payload given after old answer new = ⊥
Writes (Some OneDisk) payload given after old answer new = ⊥
Writes (Some (Spent count)) payload given after old answer new = ⊥
Writes (Some OutOfMemory) payload given after old answer new = ⊥

abbrev pub Goes : Outcome → Timed → StoreState → StoreAnswer → StoreState → Type 0
Goes (Told given) c old answer new = (answer ≡ given) × Rests old new
Goes (Accepted given after) c old answer new = Writes (append_refusal old.journal (command_payload c)) (command_payload c) given after old answer new

-- there was no memory for what takes some, and nothing has changed
abbrev pub RanOut : Outcome → StoreState → StoreAnswer → StoreState → Type 0
RanOut o old answer new = (answer ≡ Refused refusals.OutOfMemory) × TakesMemory o × Rests old new

-- What a store may answer to a command, and what it is then. One that met a fault answers Reopen, and nothing changes.
pub record Moves (old : StoreState) (c : Timed) (answer : StoreAnswer) (new : StoreState) : Type 0 where
  pub broken : old.journal.is_broken ≡ true → (answer ≡ Refused refusals.Reopen) × (new ≡ old)
  pub works : old.journal.is_broken ≡ false → RanOut (outcome_of old.contents c) old answer new ⊎ Goes (outcome_of old.contents c) c old answer new

-- an append that is done
abbrev pub IsLonger : List ℕ → JournalState → JournalState → Type 0
IsLonger payload old new = new ≡ record old { live = new.live; end = old.end + 5 + length payload; generation = generation_with old.end old.generation payload; staged = None }

-- one in which the disk failed
abbrev pub IsFaulted : JournalState → JournalState → Type 0
IsFaulted old new = new ≡ record old { live = new.live; staged = None; is_broken = true }

-- what a command is refused for if its record isn't written
abbrev pub refusal_by : JournalError → StoreRefusal
refusal_by (TooLong n) = refusals.CommandTooLong n
refusal_by (Full len) = refusals.Full len
refusal_by DiskFault = refusals.DiskFault
refusal_by (Damaged offset) = refusals.DiskFault
refusal_by Reopen = refusals.DiskFault
refusal_by NotStarted = refusals.DiskFault
refusal_by OneDisk = refusals.DiskFault
refusal_by (Spent count) = refusals.DiskFault
refusal_by OutOfMemory = refusals.DiskFault

-- What came of writing a payload to a journal that has met no fault: it is on the disk, or it is refused for this.
abbrev pub Written : List ℕ → Option StoreRefusal → JournalState → JournalState → Type 0
Written payload None old new = (append_refusal old payload ≡ None) × IsLonger payload old new × Tells (Commits payload) (told old) (told new) × Tells (Committed payload) (told old) (told new)
Written payload (Some (refusals.CommandTooLong n)) old new = (append_refusal old payload ≡ Some (TooLong n)) × (new ≡ old)
Written payload (Some (refusals.Full len)) old new = (append_refusal old payload ≡ Some (Full len)) × (new ≡ old)
Written payload (Some refusals.DiskFault) old new = (append_refusal old payload ≡ None) × IsFaulted old new × Rises old.live.faults new.live.faults × Tells (Commits payload) (told old) (told new)
Written payload (Some refusal) old new = ⊥
