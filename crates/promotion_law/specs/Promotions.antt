-- A placement that is opened on a standby's file. Own.
use Rattle.std.specs.Prelude.{◌≡◌, ◌⊎◌, ℕ, Bool, false, List, None, Some}
use Rattle.disk_model.specs.Disk.{DiskState, Tells, MayLeave}
use Rattle.tx_journal.specs.Pair.{Files}
use Rattle.tx_journal.specs.Calls.{told}
use Rattle.round_core.specs.Runs.{RunEvent}
use Rattle.placement_core.specs.Runs.{AreRooms}
use Rattle.placement_node.specs.declared.error.PlacementOpenError.{PlacementOpenError}
use Rattle.placement_node.specs.Node.{NodeState}
use Rattle.placement_node.specs.Openings.{OpensNode, RefusesNode}
use Rattle.placement_node.specs.Runs.{with_restart, IsAt, Stands}
use Rattle.placement_node.specs.Crashes.{MayRefuse}
use Rattle.standby_session.specs.Images.{Covers}

-- what the disk reads as, or what a crash may leave of it
abbrev pub IsFileOf : DiskState → List ℕ → Type 0
IsFileOf disk bytes = (bytes ≡ disk.bytes) ⊎ MayLeave disk.instant bytes

-- A node stands behind these runs, a standby covers its only disk, and the copy is the standby's file.
pub record IsPromoted (run maybe : List RunEvent) (n : NodeState) (files copy : Files) (standby : DiskState) : Type 0 where
  pub stands : Stands run maybe n
  pub told : told n.journal ≡ Some files
  pub alone : files.second ≡ None
  pub covers : Covers files.first standby
  pub copy_alone : copy.second ≡ None
  pub file : IsFileOf standby copy.first.bytes

-- a node that is opened on the copy is at the restart of one of the two runs
abbrev pub Promotes : Type 0
Promotes =
    (run maybe : List RunEvent) (n m : NodeState) (files copy : Files) (standby : DiskState) (create : Bool) (now : ℕ)
    → IsPromoted run maybe n files copy standby → AreRooms m.state.rooms → m.journal.is_broken ≡ false
    → Tells (OpensNode create now m.state) (Some copy) (told m.journal) → IsAt (with_restart run now) m ⊎ IsAt (with_restart maybe now) m

-- why the copy may be refused
abbrev pub RefusesPromotion : Type 0
RefusesPromotion =
    (run maybe : List RunEvent) (n : NodeState) (files copy : Files) (standby : DiskState) (create : Bool) (now : ℕ) (e : PlacementOpenError)
    → IsPromoted run maybe n files copy standby → RefusesNode create now e copy → MayRefuse create now e copy
