-- A journal over a list of calls: own.
use Rattle.std.specs.Prelude.{◌≡◌, ℕ, true, false, List, [], ◌∷◌, ◌++◌, Option, Some, None, Result, Ok, Err, OnOk, ◌||◌}
use Rattle.disk_model.specs.Disk.{Tells}
use Rattle.tx_journal.specs.declared.error.JournalError.{JournalError}
use Rattle.tx_journal.specs.declared.error.JournalError.TheVariants.{DiskFault, Damaged, TooLong, Full, Reopen, NotStarted, OneDisk, Spent, OutOfMemory}
use Rattle.tx_journal.specs.declared.format.Format.TheVariants.{Two}
use Rattle.tx_journal.specs.File.{Image, image, with_payload}
use Rattle.tx_journal.specs.Journal.{is_fault}
use Rattle.tx_journal.specs.Pair.{Files, generation_row, LeavesOpened, SinceOpened, Holds, IsEither}
use Rattle.tx_journal.specs.Batches.{batch_refusal, AppendsAll, with_payloads, CommitsAll, CommittedAll}
use Rattle.tx_journal.specs.Calls.{JournalState, told, append_refusal, Appends, Commits, Committed, next_number, start_refusal, Starts, Keeps, Kept, HasBegun, add_refusal, given_up, Adds, HasRow, end_refusal, Turns, Replaces, Replaced, staged_payloads}

-- a call with what it was given; a replay writes nothing
pub data JournalCall : Type 0 where
  Append : (payload : List ℕ) → JournalCall
  AppendAll : (payloads : List (List ℕ)) → JournalCall
  Begin : JournalCall
  Add : (payload : List ℕ) → JournalCall
  Turn : JournalCall
  Look : JournalCall

-- how a call was answered, without its value
abbrev pub Answer : Type 0
Answer = Result (Unit {0}) JournalError

-- what an append ensures
pub record AppendMoves (payload : List ℕ) (answer : Answer) (old new : JournalState) : Type 0 where
  pub refused : (e : JournalError) → append_refusal old payload ≡ Some e → (answer ≡ Err e) × (new ≡ old)
  pub taken : append_refusal old payload ≡ None → Appends payload answer old new
  pub crash : Tells (Commits payload) (told old) (told new)
  pub done : OnOk answer (Tells (Committed payload) (told old) (told new))

-- what an append of a batch ensures
pub record AppendAllMoves (payloads : List (List ℕ)) (answer : Answer) (old new : JournalState) : Type 0 where
  pub refused : (e : JournalError) → batch_refusal old payloads ≡ Some e → (answer ≡ Err e) × (new ≡ old)
  pub taken : batch_refusal old payloads ≡ None → AppendsAll payloads answer old new
  pub crash : Tells (CommitsAll payloads) (told old) (told new)
  pub done : OnOk answer (Tells (CommittedAll payloads) (told old) (told new))

-- what the start of a compaction ensures
pub record BeginMoves (answer : Answer) (old new : JournalState) : Type 0 where
  pub refused : (e : JournalError) → start_refusal old ≡ Some e → (answer ≡ Err e) × (new ≡ old)
  pub taken : start_refusal old ≡ None → Starts answer old new
  pub crash : Tells Keeps (told old) (told new)
  pub kept : OnOk answer (Tells Kept (told old) (told new))
  pub begun : OnOk answer (Tells (HasBegun old.is_second_live (next_number old.generation)) (told old) (told new))

-- what a row of a compaction ensures
pub record AddMoves (payload : List ℕ) (answer : Answer) (old new : JournalState) : Type 0 where
  pub refused : (e : JournalError) → add_refusal old payload ≡ Some e → (answer ≡ Err e) × (new ≡ given_up e old)
  pub taken : add_refusal old payload ≡ None → Adds payload answer old new
  pub crash : Tells Keeps (told old) (told new)
  pub kept : OnOk answer (Tells Kept (told old) (told new))
  pub added : OnOk answer (Tells (HasRow old.is_second_live payload) (told old) (told new))

-- what the end of a compaction ensures
pub record TurnMoves (answer : Answer) (old new : JournalState) : Type 0 where
  pub refused : (e : JournalError) → end_refusal old ≡ Some e → (answer ≡ Err e) × (new ≡ old)
  pub taken : end_refusal old ≡ None → Turns answer old new
  pub crash : Tells (Replaces old.is_second_live) (told old) (told new)
  pub done : OnOk answer (Tells (Replaced old.is_second_live) (told old) (told new))

-- what a replay ensures of the state
pub record LookMoves (answer : Answer) (old new : JournalState) : Type 0 where
  pub reopen : old.is_broken ≡ true → (answer ≡ Err Reopen) × (new ≡ old)
  pub same : new ≡ record old { live = record { told = old.live.told; faults = new.live.faults }; is_broken = new.is_broken }
  pub broken : new.is_broken ≡ (old.is_broken || is_fault answer)

-- a call with its answer, from one state to the next: what its contract says
abbrev pub Moves : JournalCall → Answer → JournalState → JournalState → Type 0
Moves (Append payload) answer old new = AppendMoves payload answer old new
Moves (AppendAll payloads) answer old new = AppendAllMoves payloads answer old new
Moves Begin answer old new = BeginMoves answer old new
Moves (Add payload) answer old new = AddMoves payload answer old new
Moves Turn answer old new = TurnMoves answer old new
Moves Look answer old new = LookMoves answer old new

-- What was acknowledged, by its format and its payloads; what a crash may leave in place of it, once a call has met a
-- fault; and the rows of a compaction under way.
pub record Ledger : Type 0 where
  pub held : Image
  pub maybe : Image
  pub rows : Option (List (List ℕ))

-- no outcome is open
abbrev pub settled : Image → Option (List (List ℕ)) → Ledger
settled held rows = record { held = held; maybe = held; rows = rows }

-- what came of a call
pub data Outcome : Type 0 where
  Done : Outcome
  Failed : Outcome
  GivenUp : Outcome
  Refused : Outcome

abbrev pub outcome_of : Answer → Outcome
outcome_of (Ok x) = Done
outcome_of (Err DiskFault) = Failed
outcome_of (Err (TooLong n)) = GivenUp
outcome_of (Err (Full len)) = GivenUp
outcome_of (Err (Damaged offset)) = Refused
outcome_of (Err Reopen) = Refused
outcome_of (Err NotStarted) = Refused
outcome_of (Err OneDisk) = Refused
outcome_of (Err (Spent count)) = Refused
outcome_of (Err OutOfMemory) = Refused

-- one more row of a compaction under way
abbrev pub with_row : List ℕ → Option (List (List ℕ)) → Option (List (List ℕ))
with_row payload None = None
with_row payload (Some rows) = Some (rows ++ payload ∷ [])

-- the rows of a compaction under way, in the second format; without one all as it is
abbrev pub rows_or : Option (List (List ℕ)) → Image → Image
rows_or None held = held
rows_or (Some rows) held = image Two rows

-- what a crash within this call may leave in place of what was acknowledged
abbrev pub under_way : JournalCall → Ledger → Image
under_way (Append payload) l = with_payload payload l.held
under_way (AppendAll payloads) l = with_payloads payloads l.held
under_way Begin l = l.held
under_way (Add payload) l = l.held
under_way Turn l = rows_or l.rows l.held
under_way Look l = l.held

-- the ledger after a call; the first row of a compaction is the Generation of this number
abbrev pub ledger_after : ℕ → JournalCall → Outcome → Ledger → Ledger
ledger_after number call Refused l = l
ledger_after number call Failed l = record { held = l.held; maybe = under_way call l; rows = None }
ledger_after number (Append payload) Done l = settled (with_payload payload l.held) None
ledger_after number (Append payload) GivenUp l = l
ledger_after number (AppendAll []) Done l = l
ledger_after number (AppendAll (first ∷ rest)) Done l = settled (with_payloads (first ∷ rest) l.held) None
ledger_after number (AppendAll payloads) GivenUp l = l
ledger_after number Begin Done l = settled l.held (Some (generation_row number ∷ []))
ledger_after number Begin GivenUp l = l
ledger_after number (Add payload) Done l = settled l.held (with_row payload l.rows)
ledger_after number (Add payload) GivenUp l = settled l.held None
ledger_after number Turn Done l = settled (rows_or l.rows l.held) None
ledger_after number Turn GivenUp l = l
ledger_after number Look Done l = l
ledger_after number Look GivenUp l = l

-- The journal is as the ledger says. A crash now leaves what was acknowledged or, after a fault, perhaps what was under
-- way. As long as there was no fault, the journal holds what was acknowledged, and the rows are those of the other
-- file.
pub record Stands (l : Ledger) (j : JournalState) : Type 0 where
  pub leaves : (files : Files) → told j ≡ Some files → LeavesOpened (IsEither l.held l.maybe) files
  pub holds : j.is_broken ≡ false → (files : Files) → told j ≡ Some files → Holds l.held files
  pub rows : j.is_broken ≡ false → (rows : List (List ℕ)) → l.rows ≡ Some rows → (files : Files) → told j ≡ Some files → staged_payloads j.is_second_live files ≡ Ok rows
  pub begun : j.is_broken ≡ false → (at : ℕ) → j.staged ≡ Some at → (rows : List (List ℕ)) × (l.rows ≡ Some rows)

-- a list of calls with their answers leads from one state and ledger to the next
abbrev pub Runs : Ledger → JournalState → List (JournalCall × Answer) → Ledger → JournalState → Type 0
Runs l old [] m new = (m ≡ l) × (new ≡ old)
Runs l old (entry ∷ entries) m new = (mid : JournalState) × Moves entry.0 entry.1 old mid × Runs (ledger_after (next_number old.generation) entry.0 (outcome_of entry.1) l) mid entries m new

-- in a call on a journal that has met no fault, whatever a crash leaves at any moment is what was acknowledged, or what
-- the call is about to make of it
abbrev pub RisksOne : Ledger → JournalCall → JournalState → JournalState → Type 0
RisksOne l call old new = old.is_broken ≡ false → Tells (SinceOpened (IsEither l.held (under_way call l))) (told old) (told new)

-- the same for every call of a list
abbrev pub RisksEach : Ledger → JournalState → List (JournalCall × Answer) → Type 0
RisksEach l old [] = Unit {0}
RisksEach l old (entry ∷ entries) = (mid : JournalState) → Moves entry.0 entry.1 old mid → RisksOne l entry.0 old mid × RisksEach (ledger_after (next_number old.generation) entry.0 (outcome_of entry.1) l) mid entries
