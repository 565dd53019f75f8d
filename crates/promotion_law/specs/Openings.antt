-- A placement that is opened on a standby's file while the first one is being opened. Own.
use Rattle.std.specs.Prelude.{◌≡◌, ◌⊎◌, ℕ, Bool, false, List, [], ◌∷◌, ◌++◌, None, Some}
use Rattle.disk_model.specs.Disk.{DiskState, Tells, moments}
use Rattle.tx_journal.specs.Pair.{Files, read_files}
use Rattle.tx_journal.specs.Calls.{told}
use Rattle.round_core.specs.Runs.{RunEvent}
use Rattle.placement_core.specs.Runs.{AreRooms}
use Rattle.placement_node.specs.declared.error.PlacementOpenError.{PlacementOpenError}
use Rattle.placement_node.specs.Node.{NodeState}
use Rattle.placement_node.specs.Openings.{OpensNode, KeepsNode, RefusesNode}
use Rattle.placement_node.specs.Runs.{RunFits, LeftBy, with_restart, IsAt}
use Rattle.placement_node.specs.Crashes.{IsShortEnough, MayRefuse}
use Rattle.promotion_law.specs.UnderWay.{IsFileWithin}

-- the disk one moment later
abbrev pub IsNext : DiskState → DiskState → Type 0
IsNext disk next = moments next ≡ moments disk ++ next.instant ∷ []

-- The bytes are a standby's file while a placement is opened on a disk, `first` before: as an attach left it; or, from the
-- first call on that the opening makes, such a file as in a step.
abbrev pub IsFileOpening : DiskState → DiskState → List ℕ → Type 0
IsFileOpening first last bytes = (bytes ≡ first.bytes) ⊎ ((next : DiskState) × IsNext first next × IsFileWithin next last bytes)

-- A placement is opened at `now` on a disk with the records of a run, done or refused; the copy is a standby's file at
-- some moment of that.
pub record IsCutOpening (run : List RunEvent) (create : Bool) (now : ℕ) (old new copy : Files) : Type 0 where
  pub fits : RunFits run
  pub left : LeftBy run (read_files old)
  pub short : IsShortEnough old
  pub keeps : KeepsNode create now old new
  pub alone : old.second ≡ None
  pub copy_alone : copy.second ≡ None
  pub file : IsFileOpening old.first new.first copy.first.bytes

-- a node that is opened on the copy is at the restart of the run, or of the run with the first one's restart
abbrev pub PromotesOpening : Type 0
PromotesOpening =
    (run : List RunEvent) (m : NodeState) (old new copy : Files) (create again : Bool) (now later : ℕ)
    → IsCutOpening run create now old new copy → AreRooms m.state.rooms → m.journal.is_broken ≡ false
    → Tells (OpensNode again later m.state) (Some copy) (told m.journal)
    → IsAt (with_restart run later) m ⊎ IsAt (with_restart (with_restart run now) later) m

-- why the copy may be refused
abbrev pub RefusesOpening : Type 0
RefusesOpening =
    (run : List RunEvent) (old new copy : Files) (create again : Bool) (now later : ℕ) (e : PlacementOpenError)
    → IsCutOpening run create now old new copy → RefusesNode again later e copy → MayRefuse again later e copy
