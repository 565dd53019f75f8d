-- What stands after a call on a journal, whatever the call was.
use Rattle.std.proofs.Common.{◌≡◌, inl, ℕ, Bool, true, false, cond, List, Option, Some, None, Ok, Err, refl, sym, ◌∙◌, subst}
use Rattle.disk_model.specs.Disk.{Tells}
use Rattle.disk_model.proofs.Stages.{told_before}
use Rattle.tx_journal.specs.declared.error.JournalError.{JournalError}
use Rattle.tx_journal.specs.declared.error.JournalError.TheVariants.{DiskFault, Damaged, TooLong, Full, Reopen, NotStarted, OneDisk, Spent, OutOfMemory}
use Rattle.tx_journal.specs.File.{Image}
use Rattle.tx_journal.specs.Pair.{Files, LeavesOpened, Holds, IsJust, IsEither}
use Rattle.tx_journal.specs.Calls.{JournalState, told, staged_payloads}
use Rattle.tx_journal.specs.Runs.{JournalCall, Answer, Ledger, settled, GivenUp, outcome_of, ledger_after, Stands}
use Rattle.tx_journal.proofs.Claims.{leaves_weaker}

pub held_leaves : (held maybe : Image) (files : Files) → Holds held files → LeavesOpened (IsEither held maybe) files
held_leaves held maybe files holds = leaves_weaker (IsJust held) (IsEither held maybe) files.first files.second (λ r is. inl is) holds.leaves

-- a journal that holds what is acknowledged, and has nothing under way but these rows
pub stands_settled : (held : Image) (rows : Option (List (List ℕ))) (j : JournalState) → j.is_broken ≡ false → ((files : Files) → told j ≡ Some files → Holds held files)
    → ((more : List (List ℕ)) → rows ≡ Some more → (files : Files) → told j ≡ Some files → staged_payloads j.is_second_live files ≡ Ok more)
    → ((at : ℕ) → j.staged ≡ Some at → (more : List (List ℕ)) × (rows ≡ Some more)) → Stands (settled held rows) j
stands_settled held rows j works holds staged begun = record {
  leaves = λ files tells. held_leaves held held files (holds files tells);
  holds = λ same files tells. holds files tells;
  rows = λ same more is files tells. staged more is files tells;
  begun = λ same at is. begun at is;
}

-- a journal that met a fault
pub stands_broken : (held maybe : Image) (j : JournalState) → j.is_broken ≡ true → ((files : Files) → told j ≡ Some files → LeavesOpened (IsEither held maybe) files) → Stands (record { held = held; maybe = maybe; rows = None }) j
stands_broken held maybe j broken leaves = record {
  leaves = leaves;
  holds = λ works. absurd (let e : true ≡ false = sym broken ∙ works in cc);
  rows = λ works. absurd (let e : true ≡ false = sym broken ∙ works in cc);
  begun = λ works. absurd (let e : true ≡ false = sym broken ∙ works in cc);
}

pub no_rows : (j : JournalState) (staged : j.staged ≡ None) (at : ℕ) → j.staged ≡ Some at → (more : List (List ℕ)) × (None ≡ Some more)
no_rows j staged at is = absurd (let e : None ≡ Some at = sym staged ∙ is in cc)

-- a claim about what is reported after, from what was reported before
pub from_before : (step : Files → Files → Type 0) (Q : Files → Type 0) (old new : JournalState) → Tells step (told old) (told new) → ((f g : Files) → told old ≡ Some f → step f g → Q g) → (files : Files) → told new ≡ Some files → Q files
from_before step Q old new tells f files is = let before = told_before step (told old) (told new) files tells is in f before.0 files before.1 before.2

-- the first test of every refusal
pub broken_first : (b : Bool) (rest : Option JournalError) → b ≡ true → cond b (Some Reopen) rest ≡ Some Reopen
broken_first true rest is = refl
broken_first false rest is = absurd (let e : false ≡ true = is in cc)

-- a call on a journal that met a fault is refused
pub stands_refused : (l : Ledger) (number : ℕ) (call : JournalCall) (answer : Answer) (old new : JournalState) → Stands l old → (answer ≡ Err Reopen) × (new ≡ old) → Stands (ledger_after number call (outcome_of answer) l) new
stands_refused l number call answer old new stands is =
    subst (λ (a : Answer). Stands (ledger_after number call (outcome_of a) l) new) (sym is.0) (subst (Stands l) (sym is.1) stands)

pub same_after : (l : Ledger) (number : ℕ) (call : JournalCall) (e : JournalError) → ledger_after number call GivenUp l ≡ l → (e ≡ DiskFault → ⊥) → ledger_after number call (outcome_of (Err e)) l ≡ l
same_after l number call DiskFault given other = absurd (other refl)
same_after l number call (Damaged offset) given other = refl
same_after l number call (TooLong n) given other = given
same_after l number call (Full len) given other = given
same_after l number call Reopen given other = refl
same_after l number call NotStarted given other = refl
same_after l number call OneDisk given other = refl
same_after l number call (Spent count) given other = refl
same_after l number call OutOfMemory given other = refl
