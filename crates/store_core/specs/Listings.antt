-- A list of commands under way, and what the parts of its step do. Own.
use Rattle.std.specs.Prelude.{◌≡◌, ◌⊎◌, ◌≤◌, ℕ, zero, suc, Bool, true, false, List, [], ◌∷◌, ◌++◌, length, map, Option, None, Some}
use Rattle.std.specs.List.{AllByRecursion}
use Rattle.frame_wire.specs.declared.store_answer.StoreAnswer.{StoreAnswer}
use Rattle.frame_wire.specs.declared.store_answer.StoreAnswer.TheVariants.{Refused}
use Rattle.frame_wire.specs.declared.store_refusal.StoreRefusal.{StoreRefusal}
use Rattle.frame_wire.specs.declared.store_refusal.StoreRefusal.TheVariants as refusals
use Rattle.frame_wire.specs.Store.{AnswerFits}
use Rattle.store_tables.specs.Tables.{Tables, TablesState, told_in, TakesMemory}
use Rattle.store_tables.specs.Contents.{Timed, outcome_of}
use Rattle.store_tables.specs.Prepared.{prepared_outcome, HasRoom}
use Rattle.store_payloads.specs.Payloads.{command_payload}
use Rattle.store_payloads.specs.Laws.{MayCome}
use Rattle.store_payloads.specs.Fits.{TablesFit}
use Rattle.tx_journal.specs.declared.error.JournalError.{JournalError}
use Rattle.tx_journal.specs.Batches.{stage_refusal, batch_refusal}
use Rattle.tx_journal.specs.Calls.{JournalState, is_alone}
use Rattle.store_core.specs.declared.store.list.Foreseen.{Foreseen}
use Rattle.store_core.specs.declared.store.list.Foreseen.TheVariants.{Told, Ready}
use Rattle.store_core.specs.Store.{StoreState, IsCurrent, refusal_by}
use Rattle.store_core.specs.Lists.{Rules, InTurn, Begins, MovesEach}

-- the same so many times
abbrev pub all_so : {B : Type 0} → B → ℕ → List B
all_so answer zero = []
all_so answer (suc n) = answer ∷ all_so answer n

-- ---- one command

-- what a command is answered at once, or that it is to be accepted and has its memory
abbrev pub IsForeseen : Bool → Timed → Tables → Foreseen → TablesState → Type 0
IsForeseen true c t (Told answer) after = answer ≡ Refused refusals.Reopen
IsForeseen true c t (Ready payload prepared) after = ⊥
IsForeseen false c t (Told answer) after = (told_in (outcome_of t c) ≡ Some answer) ⊎ (TakesMemory (outcome_of t c) × (answer ≡ Refused refusals.OutOfMemory))
IsForeseen false c t (Ready payload prepared) after =
    (told_in (outcome_of t c) ≡ None) × (payload.items ≡ command_payload c) × ((u : Tables) → prepared_outcome prepared u ≡ outcome_of u c) × HasRoom prepared after

-- its answer can be written as a frame
abbrev pub ForeseenFits : Foreseen → Type 0
ForeseenFits (Told answer) = AnswerFits answer
ForeseenFits (Ready payload prepared) = Unit {0}

-- ---- a list under way

module _ {A B : Type 0} (rules : Rules A B) where
  -- no answer waits for an empty batch; otherwise those behind `before` do, and the first is that of its first command
  abbrev pub Waits : Option ℕ → List (A × B) → List (A × B) → List Timed → Type 0
  Waits None before foreseen taken = (foreseen ≡ []) × (taken ≡ [])
  Waits (Some first) before foreseen taken = (first ≡ length before) × Begins rules foreseen taken

  -- What was asked of a store, with the answers so far: those of batches that came to an end, and those that wait for
  -- the batch, by what the store was when that began. Its payloads aren't on the disk yet, and the tables are ahead.
  pub record IsUnderWay (old : StoreState) (answered : List (A × B)) (journal : JournalState) (tables : Tables) (payloads : List (List ℕ)) (first : Option ℕ) : Type 0 where
    pub batches : List (List (A × B))
    pub before : List (A × B)
    pub base : StoreState
    pub moves : MovesEach rules old batches before base
    pub foreseen : List (A × B)
    pub taken : List Timed
    pub ahead : StoreState
    pub in_turn : InTurn rules base foreseen taken ahead
    pub answered_is : answered ≡ before ++ foreseen
    pub journal_is : journal ≡ base.journal
    pub tables_is : tables ≡ ahead.contents
    pub payloads_are : payloads ≡ map command_payload taken
    pub waits : Waits first before foreseen taken
    pub may : AllByRecursion MayCome taken
    pub current : IsCurrent base.journal base.contents
    pub fits : TablesFit tables
    pub paired : is_alone journal.other ≡ false

  -- a part of the step that answers nothing new; the answers that wait for a batch may have changed
  abbrev pub GoesOn : List B → JournalState → Tables → List (List ℕ) → Option ℕ → List B → JournalState → List (List ℕ) → Option ℕ → Type 0
  GoesOn answers journal tables payloads first answers_after journal_after payloads_after first_after =
      (old : StoreState) (answered : List (A × B)) → map (λ (e : A × B). e.1) answered ≡ answers → IsUnderWay old answered journal tables payloads first
      → (next : List (A × B)) × (map (λ (e : A × B). e.0) next ≡ map (λ (e : A × B). e.0) answered) × (map (λ (e : A × B). e.1) next ≡ answers_after) × IsUnderWay old next journal_after tables payloads_after first_after

  -- one that answers these, which are asked next
  abbrev pub AnswersEach : List A → List B → JournalState → Tables → List (List ℕ) → Option ℕ → List B → JournalState → Tables → List (List ℕ) → Option ℕ → Type 0
  AnswersEach asked answers journal tables payloads first answers_after journal_after tables_after payloads_after first_after =
      (old : StoreState) (answered : List (A × B)) → map (λ (e : A × B). e.1) answered ≡ answers → IsUnderWay old answered journal tables payloads first
      → (next : List (A × B)) × (map (λ (e : A × B). e.0) next ≡ map (λ (e : A × B). e.0) answered ++ asked) × (map (λ (e : A × B). e.1) next ≡ answers_after) × IsUnderWay old next journal_after tables_after payloads_after first_after

  -- one that answers this
  abbrev pub AnswersNext : A → List B → JournalState → Tables → List (List ℕ) → Option ℕ → List B → JournalState → Tables → List (List ℕ) → Option ℕ → Type 0
  AnswersNext asked answers journal tables payloads first answers_after journal_after tables_after payloads_after first_after =
      AnswersEach (asked ∷ []) answers journal tables payloads first answers_after journal_after tables_after payloads_after first_after

-- a batch that is empty, or may be appended, and whose answers begin among those that there are
abbrev pub MayPut : Option ℕ → List (List ℕ) → JournalState → ℕ → Type 0
MayPut None payloads journal count = payloads ≡ []
MayPut (Some first) payloads journal count = (first ≤ count) × (batch_refusal journal payloads ≡ None)

-- where the answers that wait for a batch begin, once it has one payload more
abbrev pub first_with : Option ℕ → ℕ → Option ℕ
first_with None count = Some count
first_with (Some first) count = Some first

module _ {A B : Type 0} (rules : Rules A B) where
  -- why a payload isn't in the batch: an append behind the others would be refused, or the disk failed before
  abbrev pub IsLeftOut : List ℕ → StoreRefusal → JournalState → List (List ℕ) → Type 0
  IsLeftOut payload refusal journal payloads =
      ((e : JournalError) × (journal.is_broken ≡ false) × (stage_refusal journal payloads payload ≡ Some e) × (refusal ≡ refusal_by e)) ⊎ ((refusal ≡ refusals.Reopen) × (journal.is_broken ≡ true))

  -- The payload is the last of the batch, which may have gone to the disk before and be a new one; or it isn't in it.
  abbrev pub Stages : List ℕ → Option StoreRefusal → Tables → List B → JournalState → List (List ℕ) → Option ℕ → List B → JournalState → List (List ℕ) → Option ℕ → Type 0
  Stages payload None t answers journal payloads first answers_after journal_after payloads_after first_after =
      (mid : List (List ℕ)) × (from : Option ℕ) × GoesOn rules answers journal t payloads first answers_after journal_after mid from
      × (stage_refusal journal_after mid payload ≡ None) × (payloads_after ≡ mid ++ payload ∷ []) × (first_after ≡ first_with from (length answers_after))
  Stages payload (Some refusal) t answers journal payloads first answers_after journal_after payloads_after first_after =
      GoesOn rules answers journal t payloads first answers_after journal_after payloads_after first_after × IsLeftOut payload refusal journal_after payloads_after

  -- a part that answers a command; the answer isn't among the others yet
  abbrev pub AnswersCommand : Timed → StoreAnswer → List B → JournalState → Tables → List (List ℕ) → Option ℕ → List B → JournalState → Tables → List (List ℕ) → Option ℕ → Type 0
  AnswersCommand c given answers journal tables payloads first answers_after journal_after tables_after payloads_after first_after =
      (asked : A) → rules.given asked ≡ c → ((s : StoreState) → s.contents ≡ tables → s.journal.is_broken ≡ journal.is_broken → rules.refusal asked s ≡ None)
      → AnswersNext rules asked answers journal tables payloads first (answers_after ++ rules.told given ∷ []) journal_after tables_after payloads_after first_after
