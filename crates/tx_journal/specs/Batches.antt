-- Several payloads in one commit: own.
use Rattle.std.specs.Prelude.{◌≡◌, ◌<◌, ◌≤◌, ℕ, suc, ◌+◌, true, List, [], ◌∷◌, ◌++◌, length, take, Option, Some, None, Result, Ok, Err, nat_lt, ◌==◌, if◌then◌else◌}
use Rattle.std.specs.List.{AllByRecursion}
use Rattle.tx_journal.specs.declared.error.JournalError.{JournalError}
use Rattle.tx_journal.specs.declared.error.JournalError.TheVariants.{DiskFault, Damaged, TooLong, Full, Reopen, NotStarted, OneDisk, Spent, OutOfMemory}
use Rattle.tx_journal.specs.declared.staged.Staged.{Staged}
use Rattle.tx_journal.specs.declared.staged.Staged.TheVariants.{Added, NoRoom}
use Rattle.tx_journal.specs.File.{longest, most_bytes, records, IsShort, payloads_from, Image, image}
use Rattle.tx_journal.specs.Journal.{Rises}
use Rattle.tx_journal.specs.Pair.{Files, first_generation, SinceOpened, Holds, IsEither}
use Rattle.tx_journal.specs.Calls.{JournalState, append_refusal, generation_with}

-- the most bytes of a batch's records: those of one longest record
abbrev pub most_batch : ℕ
most_batch = 5242885

-- the payloads that were read, or none
abbrev pub read_or_none : Result (List (List ℕ)) ℕ → List (List ℕ)
read_or_none (Ok payloads) = payloads
read_or_none (Err offset) = []

-- the payloads of records, up to the first gate that isn't 1
abbrev pub batch_payloads : List ℕ → List (List ℕ)
batch_payloads text = read_or_none (payloads_from (suc (length text)) 0 text)

-- The buffer of a batch: records of payloads that aren't too long, of `len` bytes together, and a closed gate behind
-- them; and the number of the first payload, if that is a Generation.
pub record IsBatch (buffer : List ℕ) (len : ℕ) (generation : Option ℕ) : Type 0 where
  pub payloads : List (List ℕ)
  pub short : AllByRecursion IsShort payloads
  pub text : take (len + 1) buffer ≡ records payloads ++ 0 ∷ []
  pub len_is : len ≡ length (records payloads)
  pub few : len ≤ most_batch
  pub room_is : length buffer ≡ longest + 6
  pub numbered : generation ≡ first_generation payloads

-- a payload that is given to a batch is its last one, or it has no room there
abbrev pub AddsTo : List ℕ → Staged → List (List ℕ) → List (List ℕ) → Type 0
AddsTo payload Added old new = (new ≡ old ++ payload ∷ []) × (length (records new) ≤ most_batch)
AddsTo payload NoRoom old new = (new ≡ old) × (most_batch < length (records (old ++ payload ∷ [])))

-- the Generation of the live file after a batch: the first payload's, if that is the file's first record and a
-- Generation
abbrev pub generation_with_all : ℕ → Option ℕ → List (List ℕ) → Option ℕ
generation_with_all end None payloads = if end == 9 then first_generation payloads else None
generation_with_all end (Some n) payloads = Some n

-- the length and the Generation of a journal with records of these payloads behind its own
abbrev pub behind : List (List ℕ) → JournalState → JournalState
behind payloads j = record j { end = j.end + length (records payloads); generation = generation_with_all j.end j.generation payloads }

-- the same after an append of each
abbrev pub behind_each : List (List ℕ) → JournalState → JournalState
behind_each [] j = j
behind_each (payload ∷ payloads) j = behind_each payloads (record j { end = j.end + 5 + length payload; generation = generation_with j.end j.generation payload })

-- the refusals of one more payload of a batch: those of an append behind the others
abbrev pub stage_refusal : JournalState → List (List ℕ) → List ℕ → Option JournalError
stage_refusal j batch payload = append_refusal (behind batch j) payload

-- a payload that isn't refused is given to the batch
abbrev pub Stages : List ℕ → Result Staged JournalError → List (List ℕ) → List (List ℕ) → Type 0
Stages payload (Ok staged) old new = AddsTo payload staged old new
Stages payload (Err e) old new = ⊥

-- the refusals of a batch, in the order in which they are tested; they change nothing
abbrev pub batch_refusal : JournalState → List (List ℕ) → Option JournalError
batch_refusal j payloads =
    if j.is_broken then Some Reopen
    else if nat_lt most_bytes (j.end + length (records payloads)) then Some (Full j.end)
    else None

-- A batch that isn't refused. An empty one is done, and changes nothing. Any other is done, or the disk failed in it and
-- the journal must be opened again; a compaction is given up.
abbrev pub AppendsAll : {T : Type 0} → List (List ℕ) → Result T JournalError → JournalState → JournalState → Type 0
AppendsAll [] (Ok x) old new = new ≡ old
AppendsAll [] (Err e) old new = ⊥
AppendsAll (first ∷ rest) (Ok x) old new = (new ≡ record (behind (first ∷ rest) old) { live = new.live; staged = None }) × (old.live.faults ≤ new.live.faults)
AppendsAll (first ∷ rest) (Err DiskFault) old new = (new ≡ record old { live = new.live; staged = None; is_broken = true }) × Rises old.live.faults new.live.faults
AppendsAll (first ∷ rest) (Err (Damaged offset)) old new = ⊥
AppendsAll (first ∷ rest) (Err (TooLong n)) old new = ⊥
AppendsAll (first ∷ rest) (Err (Full len)) old new = ⊥
AppendsAll (first ∷ rest) (Err Reopen) old new = ⊥
AppendsAll (first ∷ rest) (Err NotStarted) old new = ⊥
AppendsAll (first ∷ rest) (Err OneDisk) old new = ⊥
AppendsAll (first ∷ rest) (Err (Spent count)) old new = ⊥
AppendsAll (first ∷ rest) (Err OutOfMemory) old new = ⊥

-- the same format, with these payloads behind the others
abbrev pub with_payloads : List (List ℕ) → Image → Image
with_payloads payloads i = image i.format (i.payloads ++ payloads)

-- Whatever a crash leaves at any moment of a batch stands for the payloads that the journal held, with all of the batch
-- behind them or with none of it, and has the same format.
abbrev pub CommitsAll : List (List ℕ) → Files → Files → Type 0
CommitsAll payloads old new = (held : Image) → Holds held old → SinceOpened (IsEither held (with_payloads payloads held)) old new

-- Once it is answered Ok, the journal holds all of the batch too.
abbrev pub CommittedAll : List (List ℕ) → Files → Files → Type 0
CommittedAll payloads old new = (held : Image) → Holds held old → Holds (with_payloads payloads held) new
