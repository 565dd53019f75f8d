-- Commands in a list, which share the syncs of their batches. Own.
use Rattle.std.specs.Prelude.{◌≡◌, ◌⊎◌, ◌+◌, ℕ, Bool, true, false, List, [], ◌∷◌, ◌++◌, length, map, Option, None, Some}
use Rattle.frame_wire.specs.declared.store_answer.StoreAnswer.{StoreAnswer}
use Rattle.frame_wire.specs.declared.store_answer.StoreAnswer.TheVariants.{Refused}
use Rattle.frame_wire.specs.declared.store_refusal.StoreRefusal.TheVariants as refusals
use Rattle.store_tables.specs.Tables.{Tables, Outcome, Told, Accepted, TakesMemory}
use Rattle.store_tables.specs.Contents.{Timed, outcome_of}
use Rattle.store_payloads.specs.Payloads.{command_payload}
use Rattle.store_payloads.specs.Laws.{MayCome}
use Rattle.tx_journal.specs.declared.error.JournalError.{JournalError}
use Rattle.tx_journal.specs.declared.error.JournalError.TheVariants.{DiskFault, Damaged, TooLong, Full, Reopen, NotStarted, OneDisk, Spent, OutOfMemory}
use Rattle.tx_journal.specs.Journal.{Rises}
use Rattle.tx_journal.specs.Calls.{append_refusal}
use Rattle.store_core.specs.declared.guard.Guarded.{Guarded}
use Rattle.store_core.specs.declared.guard.Guarded.TheVariants.{Pass, Answer}
use Rattle.store_core.specs.Store.{StoreState, Leaves, Risks}

-- ---- one command of a list, as if those before it were on the disk already

-- An accepted command whose record isn't on the disk yet: the contents are those that it leaves, the live file counts as
-- longer by its record, and the disks are as they were.
abbrev pub ahead_by : List ℕ → Tables → StoreState → StoreState
ahead_by payload after s = record { contents = after; journal = record s.journal { end = s.journal.end + 5 + length payload; staged = None } }

-- it is answered so, and joins no batch
abbrev pub Stays : {B : Type 0} → B → StoreState → B → List Timed → StoreState → Type 0
Stays given s answer taken ahead = (answer ≡ given) × (taken ≡ []) × (ahead ≡ s)

-- an accepted command joins the batch, or is refused for its length, or for that of the file
abbrev pub Joins : Option JournalError → Timed → StoreAnswer → Tables → StoreState → StoreAnswer → List Timed → StoreState → Type 0
Joins None c given after s answer taken ahead = (answer ≡ given) × (taken ≡ c ∷ []) × (ahead ≡ ahead_by (command_payload c) after s)
Joins (Some (TooLong n)) c given after s answer taken ahead = Stays (Refused (refusals.CommandTooLong n)) s answer taken ahead
Joins (Some (Full len)) c given after s answer taken ahead = Stays (Refused (refusals.Full len)) s answer taken ahead
Joins (Some Reopen) c given after s answer taken ahead = ⊥
Joins (Some DiskFault) c given after s answer taken ahead = ⊥
Joins (Some (Damaged offset)) c given after s answer taken ahead = ⊥
Joins (Some NotStarted) c given after s answer taken ahead = ⊥
Joins (Some OneDisk) c given after s answer taken ahead = ⊥
Joins (Some (Spent count)) c given after s answer taken ahead = ⊥
Joins (Some OutOfMemory) c given after s answer taken ahead = ⊥

abbrev pub Comes : Outcome → Timed → StoreState → StoreAnswer → List Timed → StoreState → Type 0
Comes (Told given) c s answer taken ahead = Stays given s answer taken ahead
Comes (Accepted given after) c s answer taken ahead = Joins (append_refusal s.journal (command_payload c)) c given after s answer taken ahead

-- What a command of a list is answered if its batch reaches the disk: what it would be answered if those before it were
-- on the disk already. It joins the batch (`taken`) or not.
pub record Foresees (s : StoreState) (c : Timed) (answer : StoreAnswer) (taken : List Timed) (ahead : StoreState) : Type 0 where
  pub broken : s.journal.is_broken ≡ true → Stays (Refused refusals.Reopen) s answer taken ahead
  pub works :
      s.journal.is_broken ≡ false
      → (TakesMemory (outcome_of s.contents c) × Stays (Refused refusals.OutOfMemory) s answer taken ahead) ⊎ Comes (outcome_of s.contents c) c s answer taken ahead

-- ---- a guard before the store

-- What stands before the store: which command it is given for what is asked, what is answered in its place, whether that
-- may want memory, and how the store's answers are told.
pub record Rules (A B : Type 0) : Type 0 where
  pub given : A → Timed
  pub refusal : A → StoreState → Option B
  pub memory : A → Bool
  pub told : StoreAnswer → B

module _ {A B : Type 0} (rules : Rules A B) where
  -- the answer of the guard, or the store's
  abbrev pub Passes : Option B → A → StoreState → B → List Timed → StoreState → Type 0
  Passes (Some refused) asked s answer taken ahead = Stays refused s answer taken ahead
  Passes None asked s answer taken ahead = (given : StoreAnswer) × (answer ≡ rules.told given) × Foresees s (rules.given asked) given taken ahead

  -- what is asked is answered by the contents that the commands before it leave
  abbrev pub Guards : StoreState → A → B → List Timed → StoreState → Type 0
  Guards s asked answer taken ahead = ((rules.memory asked ≡ true) × Stays (rules.told (Refused refusals.OutOfMemory)) s answer taken ahead) ⊎ Passes (rules.refusal asked s) asked s answer taken ahead

  -- What is asked, each with its answer, one after another; `batch` has the commands that join it.
  abbrev pub InTurn : StoreState → List (A × B) → List Timed → StoreState → Type 0
  InTurn s [] batch ahead = (batch ≡ []) × (ahead ≡ s)
  InTurn s (entry ∷ entries) batch ahead =
      (mid : StoreState) × (taken : List Timed) × (rest : List Timed) × Guards s entry.0 entry.1 taken mid × InTurn mid entries rest ahead × (batch ≡ taken ++ rest)

-- what a guard decides: the answer is its own, and can be written as a frame, or the store is given this command
abbrev pub Decides : {A B : Type 0} → Rules A B → (B → Type 0) → StoreState → A → Guarded B → Type 0
Decides rules fits s asked (Pass command now) = (rules.refusal asked s ≡ None) × (rules.given asked ≡ record { now = now; command = command }) × MayCome (rules.given asked)
Decides rules fits s asked (Answer answer) =
    fits answer × (((rules.memory asked ≡ true) × (answer ≡ rules.told (Refused refusals.OutOfMemory))) ⊎ (rules.refusal asked s ≡ Some answer))

-- ---- a batch

-- all of a batch is on the disk; the live file is longer by its records
pub record AreWritten (ahead old new : StoreState) : Type 0 where
  pub contents : new.contents ≡ ahead.contents
  pub journal : new.journal ≡ record ahead.journal { live = new.journal.live }
  pub works : new.journal.is_broken ≡ false
  pub leaves : Leaves ahead.contents new
  pub risks : Risks ahead.contents old new

-- The disk failed: all of the batch is on it or nothing, until the store is opened again. What is in memory is ahead of
-- it, and is told to nobody.
pub record HaveFailed (ahead old new : StoreState) : Type 0 where
  pub contents : new.contents ≡ ahead.contents
  pub journal : new.journal ≡ record old.journal { live = new.journal.live; staged = None; is_broken = true }
  pub broken : new.journal.is_broken ≡ true
  pub rises : Rises old.journal.live.faults new.journal.live.faults
  pub risks : Risks ahead.contents old new

-- an empty batch makes no call of the disk
abbrev pub IsPut : List Timed → StoreState → StoreState → StoreState → Type 0
IsPut [] ahead old new = (new ≡ old) × (old.journal.is_broken ≡ false → Leaves old.contents old)
IsPut (c ∷ cs) ahead old new = AreWritten ahead old new

module _ {A B : Type 0} (rules : Rules A B) where
  -- each is answered that the disk failed
  abbrev pub failed_entries : List (A × B) → List (A × B)
  failed_entries [] = []
  failed_entries (entry ∷ entries) = (entry.0, rules.told (Refused refusals.DiskFault)) ∷ failed_entries entries

  -- the first of them is the first command of the batch
  abbrev pub Begins : List (A × B) → List Timed → Type 0
  Begins [] batch = ⊥
  Begins (entry ∷ entries) batch = (more : List Timed) × (batch ≡ rules.given entry.0 ∷ more)

  -- A batch and what is asked with it, with the answers: those that were foreseen, or each that the disk failed.
  pub record MovesBatch (old : StoreState) (entries : List (A × B)) (new : StoreState) : Type 0 where
    pub foreseen : List (A × B)
    pub batch : List Timed
    pub ahead : StoreState
    pub in_turn : InTurn rules old foreseen batch ahead
    pub ends :
        ((entries ≡ foreseen) × IsPut batch ahead old new) ⊎ ((entries ≡ failed_entries foreseen) × Begins foreseen batch × HaveFailed ahead old new)

  -- ---- a list

  -- the entries of batches, one after another
  abbrev pub MovesEach : StoreState → List (List (A × B)) → List (A × B) → StoreState → Type 0
  MovesEach old [] entries new = (entries ≡ []) × (new ≡ old)
  MovesEach old (first ∷ batches) entries new =
      (mid : StoreState) × (rest : List (A × B)) × MovesBatch old first mid × MovesEach mid batches rest new × (entries ≡ first ++ rest)

  -- A list is one batch, or several if they have more bytes than one may have. Each of them is, at every moment, on the
  -- disk as a whole or not at all, and all are before the list is answered.
  abbrev pub MovesAll : StoreState → List (A × B) → StoreState → Type 0
  MovesAll old entries new = (batches : List (List (A × B))) × MovesEach old batches entries new

  -- the answers to what is asked, one for each
  abbrev pub AnswersAll : StoreState → List A → List B → StoreState → Type 0
  AnswersAll old asked answers new =
      (entries : List (A × B)) × (map (λ (entry : A × B). entry.0) entries ≡ asked) × (map (λ (entry : A × B). entry.1) entries ≡ answers) × MovesAll old entries new
