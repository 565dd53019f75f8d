-- What a run of the store does to the disks of its host, and what a crash leaves of them. Own.
use Rattle.std.specs.Prelude.{◌≡◌, ◌⊎◌, ℕ, Bool, true, false, List, [], ◌∷◌, Option, None, Some}
use Rattle.disk_model.specs.Disk.{DiskState, Tells}
use Rattle.server_ports.specs.Hosts.{Opened, Handed, nothing_handed}
use Rattle.tx_journal.specs.declared.error.JournalError.{JournalError}
use Rattle.tx_journal.specs.declared.error.JournalError.TheVariants as errors
use Rattle.tx_journal.specs.Calls.{Side, JournalState, told, tell_both, first_side, second_side}
use Rattle.tx_journal.specs.Pair.{Files}
use Rattle.store_core.specs.Store.{StoreState}
use Rattle.store_core.specs.Opens.{OpensStore, KeepsStore, RefusesStore, IsStoreOpenError}
use Rattle.fence_rows.specs.Groups.{GroupHistory, GroupRuns, Flattens}
use Rattle.store_command.specs.Commands.{second_path}
use Rattle.store_command.specs.declared.command.StoreEnd.{StoreEnd}
use Rattle.store_command.specs.declared.command.StoreEnd.TheVariants as ends

-- ---- a store that was opened

-- What a crash leaves of a store's files while these entries of the fenced store, each a list of what was asked with its
-- answers, lead from one state to another. They come to single steps with the same answers, whose acknowledged commands
-- alone lead to what was acknowledged, and no stamp is acknowledged twice. At the end a crash leaves that or, after a
-- fault, perhaps what was ahead: what the command that met it was about to leave, or all of its batch. Whatever a crash
-- leaves at any moment of a part, which is one event or one batch, opens with the contents before the part, or with those
-- to which the whole part leads.
abbrev pub KeepsAll : StoreState → GroupHistory → StoreState → Type 0
KeepsAll old entries new = Flattens old.contents old entries new

abbrev pub side_told : Option Side → List (Option DiskState)
side_told None = []
side_told (Some side) = side.told ∷ []

-- what the disks of a journal tell, in their order
abbrev pub sides_told : JournalState → List (Option DiskState)
sides_told j = (first_side j).told ∷ side_told (second_side j)

-- All that happened to an open store was one legal history of the fenced store's steps, each by what was asked together,
-- and its disks were given back as the last step left them.
pub record ServesStore (s : StoreState) (back : List (Option DiskState)) : Type 0 where
  pub history : GroupHistory
  pub last : StoreState
  pub leads : GroupRuns s history last
  pub keeps : KeepsAll s history last
  pub returned : back ≡ sides_told last.journal

-- a run that has opened its store isn't told as damaged
abbrev pub IsServedEnd : StoreEnd → Type 0
IsServedEnd ends.Done = Unit {0}
IsServedEnd ends.DiskFault = Unit {0}
IsServedEnd ends.PortFault = Unit {0}
IsServedEnd ends.OutOfMemory = Unit {0}
IsServedEnd (ends.Damaged offset) = ⊥

-- it was served; or there was no memory for that, and it is lost with its disks
abbrev pub EndsStore : StoreState → StoreEnd → List (Option DiskState) → Type 0
EndsStore s end back = (IsServedEnd end × ServesStore s back) ⊎ ((end ≡ ends.OutOfMemory) × (back ≡ []))

-- ---- the opening

-- how the command ends if the store isn't opened: what has an offset is printed, and all but a fault is want of memory
abbrev pub end_of : JournalError → StoreEnd
end_of errors.DiskFault = ends.DiskFault
end_of (errors.Damaged offset) = ends.Damaged offset
end_of (errors.Full len) = ends.Damaged len
end_of (errors.TooLong n) = ends.Damaged n
end_of errors.Reopen = ends.OutOfMemory
end_of errors.NotStarted = ends.OutOfMemory
end_of errors.OneDisk = ends.OutOfMemory
end_of (errors.Spent count) = ends.OutOfMemory
end_of errors.OutOfMemory = ends.OutOfMemory

-- the store was opened from two disks that told this
pub record OpensPair (create : Bool) (first second : Option DiskState) (s : StoreState) : Type 0 where
  pub opened : Tells (OpensStore create s.contents) (tell_both first second) (told s.journal)
  pub crash : Tells (KeepsStore create) (tell_both first second) (told s.journal)
  pub works : s.journal.is_broken ≡ false

-- the store wasn't opened, for this; the disks were given back
pub record RefusesPair (create : Bool) (first second : Option DiskState) (e : JournalError) (back : List (Option DiskState)) : Type 0 where
  pub error : IsStoreOpenError e
  pub cause : (files : Files) → tell_both first second ≡ Some files → RefusesStore create e files
  pub first_back : Option DiskState
  pub second_back : Option DiskState
  pub returned : back ≡ first_back ∷ second_back ∷ []
  pub crash : Tells (KeepsStore create) (tell_both first second) (tell_both first_back second_back)

-- what came of two disks: the store was refused with the error that the end tells, or it was opened
abbrev pub RunsPair : Bool → Option DiskState → Option DiskState → StoreEnd → List (Option DiskState) → Type 0
RunsPair create first second end back =
    ((e : JournalError) × (end ≡ end_of e) × RefusesPair create first second e back) ⊎ ((s : StoreState) × OpensPair create first second s × EndsStore s end back)

-- ---- the disks of a run

-- a disk of the path of the words: made if there is none only if they say so
abbrev pub first_opened : List ℕ → Bool → Option DiskState → Opened
first_opened path is_new state = record { path = path; create = is_new; state = state }

-- a disk of the second path: made if there is none
abbrev pub second_opened : List ℕ → Option DiskState → Opened
second_opened path state = record { path = path; create = true; state = state }

-- a disk can't be opened: it failed, or there was no memory
abbrev pub IsUnopened : StoreEnd → Type 0
IsUnopened end = (end ≡ ends.DiskFault) ⊎ (end ≡ ends.OutOfMemory)

-- only given back
abbrev pub given_back : List (Option DiskState) → Handed
given_back back = record { opened = []; returned = back }

-- what came of the first disk: the second one wasn't opened, and the first was given back as it was; or both were
abbrev pub RunsFirst : List ℕ → Bool → Option DiskState → StoreEnd → Handed → Type 0
RunsFirst second_at create first end given =
    ((given ≡ given_back (first ∷ [])) × IsUnopened end)
    ⊎ ((second : Option DiskState) × (back : List (Option DiskState)) × (given ≡ record { opened = second_opened second_at second ∷ []; returned = back }) × RunsPair create first second end back)

-- What a run does to its disks: it opens none; or the first one, and what comes of it.
abbrev pub RunsStore : List ℕ → Bool → StoreEnd → Handed → Type 0
RunsStore path is_new end given =
    ((given ≡ nothing_handed) × IsUnopened end)
    ⊎ ((first : Option DiskState) × (more : Handed) × (given ≡ record { opened = first_opened path is_new first ∷ more.opened; returned = more.returned }) × RunsFirst (second_path path) is_new first end more)
