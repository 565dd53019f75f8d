-- A node that is opened on what a crash left of one. Own.
use Rattle.std.specs.Prelude.{◌≡◌, ◌≤◌, ℕ, false, Bool, List, length, None, Some}
use Rattle.disk_model.specs.Disk.{Tells, MayLeave}
use Rattle.tx_journal.specs.declared.error.JournalError.TheVariants as faults
use Rattle.tx_journal.specs.declared.format.Format.TheVariants.{One}
use Rattle.tx_journal.specs.File.{most_bytes}
use Rattle.tx_journal.specs.Pair.{Files, live_bytes, read_files, ReadsAs}
use Rattle.tx_journal.specs.Calls.{told}
use Rattle.round_core.specs.Runs.{RunEvent}
use Rattle.placement_core.specs.Runs.{AreRooms}
use Rattle.placement_node.specs.declared.error.PlacementOpenError.{PlacementOpenError}
use Rattle.placement_node.specs.declared.error.PlacementOpenError.TheVariants.{Journal, BadRecord}
use Rattle.placement_node.specs.Node.{NodeState}
use Rattle.placement_node.specs.Openings.{MayBeLeftBy, OpensNode, RefusesNode, HasNoRoom}
use Rattle.placement_node.specs.Runs.{RunFits, LeftBy, LeftByEither, with_restart, IsAt, Stands}

-- the second file reads as a crash may leave the first one now; each is the only one of its journal
pub record IsLeftOf (files left : Files) : Type 0 where
  pub alone : files.second ≡ None
  pub alone_left : left.second ≡ None
  pub image : MayLeave files.first.instant left.first.bytes

-- the file is no longer than a journal takes
abbrev pub IsShortEnough : Files → Type 0
IsShortEnough files = length (live_bytes files.first files.second) ≤ most_bytes

-- what a crash leaves of a node that stands has the records of one of the two runs, and is no longer than a journal takes
abbrev pub CrashLeaves : Type 0
CrashLeaves =
    (run maybe : List RunEvent) (n : NodeState) (files left : Files)
    → Stands run maybe n → told n.journal ≡ Some files → IsLeftOf files left → LeftByEither run maybe (read_files left) × IsShortEnough left

-- a node that is opened on a file of a run's records is at the end of the run with this restart
abbrev pub OpensAtLeft : Type 0
OpensAtLeft =
    (run : List RunEvent) (create : Bool) (now : ℕ) (n : NodeState) (files : Files)
    → RunFits run → LeftBy run (read_files files) → AreRooms n.state.rooms → n.journal.is_broken ≡ false
    → Tells (OpensNode create now n.state) (Some files) (told n.journal) → IsAt (with_restart run now) n

-- why such a file may be refused all the same: by the disk, by want of memory, or if the record of the restart has no
-- room
abbrev pub MayRefuse : Bool → ℕ → PlacementOpenError → Files → Type 0
MayRefuse create now (Journal faults.DiskFault) files = Unit {0}
MayRefuse create now (Journal faults.OutOfMemory) files = Unit {0}
MayRefuse create now (Journal (faults.Full len)) files = HasNoRoom create now len files
MayRefuse create now (Journal (faults.Damaged offset)) files = ⊥
MayRefuse create now (Journal (faults.TooLong n)) files = ⊥
MayRefuse create now (Journal faults.Reopen) files = ⊥
MayRefuse create now (Journal faults.NotStarted) files = ⊥
MayRefuse create now (Journal faults.OneDisk) files = ⊥
MayRefuse create now (Journal (faults.Spent count)) files = ⊥
MayRefuse create now (BadRecord index offset) files = ⊥

abbrev pub RefusesLeft : Type 0
RefusesLeft =
    (run : List RunEvent) (create : Bool) (now : ℕ) (e : PlacementOpenError) (files : Files)
    → LeftBy run (read_files files) → IsShortEnough files → RefusesNode create now e files → MayRefuse create now e files

-- a crash in the opening of such a file leaves the records of the run, with this restart or without it
abbrev pub OpeningLeaves : Type 0
OpeningLeaves =
    (run : List RunEvent) (create : Bool) (now : ℕ) (files : Files) (left : List ℕ)
    → files.second ≡ None → RunFits run → LeftBy run (read_files files) → IsShortEnough files
    → MayBeLeftBy create now files left None → ReadsAs (LeftByEither run (with_restart run now)) One left
