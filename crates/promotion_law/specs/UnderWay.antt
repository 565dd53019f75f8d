-- A placement that is opened on a standby's file while a step of the first one is under way. Own.
use Rattle.std.specs.Prelude.{◌≡◌, ◌⊎◌, ℕ, Bool, true, false, List, [], ◌∷◌, ◌++◌, None, Some}
use Rattle.actor_ports.specs.declared.port.PortError.{PortError}
use Rattle.disk_model.specs.Disk.{Instant, DiskState, Tells, moments}
use Rattle.disk_model.specs.Crash.{ReadsAnImage}
use Rattle.frame_wire.specs.declared.mirror.MirrorCommand.{MirrorCommand}
use Rattle.standby_core.specs.Replicas.{IsWithin, AreWithin, disk_after, disk_after_all}
use Rattle.standby_session.specs.Sessions.{MakesBut}
use Rattle.standby_session.specs.Images.{AllSentFor, BeginFor, Covers}
use Rattle.tx_journal.specs.Pair.{Files}
use Rattle.tx_journal.specs.Calls.{told}
use Rattle.round_core.specs.Runs.{RunEvent}
use Rattle.placement_core.specs.Runs.{AreRooms}
use Rattle.placement_node.specs.declared.error.PlacementOpenError.{PlacementOpenError}
use Rattle.placement_node.specs.declared.reply.NodeEvent.{NodeEvent}
use Rattle.placement_node.specs.declared.reply.NodeReply.{NodeReply}
use Rattle.placement_node.specs.Node.{NodeState, NodeMoves}
use Rattle.placement_node.specs.Openings.{OpensNode, RefusesNode}
use Rattle.placement_node.specs.Ranges.{EventFits}
use Rattle.placement_node.specs.Runs.{with_step, with_restart, IsAt, Stands}
use Rattle.placement_node.specs.Crashes.{MayRefuse}
use Rattle.promotion_law.specs.Promotions.{IsFileOf}

-- ---- a standby's file while the placement's disk goes on

-- the disk went on from the first state to the second: its moments are those of the first, and perhaps more
abbrev pub GoesOn : DiskState → DiskState → Type 0
GoesOn old new = (more : List Instant) × (moments new ≡ moments old ++ more)

-- One call is under way, before which the placement's disk was `disk`, and `standby` the standby's: the first has done
-- it, on the way to `last`, and the standby none of it, some of its pieces, or all.
pub record IsFileAmid (disk last standby : DiskState) (bytes : List ℕ) : Type 0 where
  pub call : MirrorCommand
  pub sent : List MirrorCommand
  pub within : IsWithin disk.bytes call
  pub begins : BeginFor call sent
  pub ends : GoesOn (disk_after disk call) last
  pub file : IsFileOf (disk_after_all standby sent) bytes

-- The same where the standby's disk fails at a piece of the call, or has no memory for it, which leads it to `after`. As
-- every disk, it read as a crash might have left it.
pub record IsFileFailed (disk last standby : DiskState) (bytes : List ℕ) : Type 0 where
  pub call : MirrorCommand
  pub sent : List MirrorCommand
  pub failed : MirrorCommand
  pub error : PortError
  pub after : DiskState
  pub within : IsWithin disk.bytes call
  pub begins : BeginFor call (sent ++ failed ∷ [])
  pub ends : GoesOn (disk_after disk call) last
  pub image : ReadsAnImage standby
  pub made : MakesBut sent failed error standby after
  pub file : IsFileOf after bytes

-- a standby's file behind a call that was answered: no later one has reached it, or the next one is under way
abbrev pub IsFileAt : DiskState → DiskState → DiskState → List ℕ → Type 0
IsFileAt disk last standby bytes = IsFileOf standby bytes ⊎ (IsFileAmid disk last standby bytes ⊎ IsFileFailed disk last standby bytes)

-- The bytes are a standby's file at a moment at which the placement's disk is on its way from `first` to `last`: the
-- standby covers this disk as it was behind the last call that was answered.
pub record IsFileWithin (first last : DiskState) (bytes : List ℕ) : Type 0 where
  pub disk : DiskState
  pub standby : DiskState
  pub covers : Covers disk standby
  pub begins : GoesOn first disk
  pub ends : GoesOn disk last
  pub file : IsFileAt disk last standby bytes

-- The same by the calls: of a standby that covered the disk at first, and behind that made what was sent for these calls,
-- all of them answered.
pub record IsFileBehind (first last standby : DiskState) (bytes : List ℕ) : Type 0 where
  pub calls : List MirrorCommand
  pub sent : List MirrorCommand
  pub within : AreWithin first.bytes calls
  pub all_sent : AllSentFor calls sent
  pub ends : GoesOn (disk_after_all first calls) last
  pub file : IsFileAt (disk_after_all first calls) last (disk_after_all standby sent) bytes

-- a standby that covered the disk has such a file, wherever the calls are cut off
abbrev pub CallsAreWithin : Type 0
CallsAreWithin = (first last standby : DiskState) (bytes : List ℕ) → Covers first standby → IsFileBehind first last standby bytes → IsFileWithin first last bytes

-- ---- a node that is opened on it

-- A node stands behind these runs and makes a step, in which its only disk goes from that of `files` to that of `later`;
-- the copy is a standby's file at some moment of the step.
pub record IsCutOff (run maybe : List RunEvent) (event : NodeEvent) (reply : NodeReply) (old new : NodeState) (files later copy : Files) : Type 0 where
  pub stands : Stands run maybe old
  pub fits : EventFits event.event
  pub moves : NodeMoves old event reply new
  pub before : told old.journal ≡ Some files
  pub behind : told new.journal ≡ Some later
  pub alone : files.second ≡ None
  pub copy_alone : copy.second ≡ None
  pub file : IsFileWithin files.first later.first copy.first.bytes

-- what may stand in place of a node's run during a step: the run with the step; or, if the node has met a fault and so
-- makes none, the run with the step that met it
abbrev pub other_run : Bool → List RunEvent → List RunEvent → List RunEvent
other_run true maybe next = maybe
other_run false maybe next = next

-- a node that is opened on the copy is at the restart of the run, or of that one
abbrev pub PromotesWithin : Type 0
PromotesWithin =
    (run maybe : List RunEvent) (event : NodeEvent) (reply : NodeReply) (old new m : NodeState) (files later copy : Files) (create : Bool) (now : ℕ)
    → IsCutOff run maybe event reply old new files later copy → AreRooms m.state.rooms → m.journal.is_broken ≡ false
    → Tells (OpensNode create now m.state) (Some copy) (told m.journal)
    → IsAt (with_restart run now) m ⊎ IsAt (with_restart (other_run old.journal.is_broken maybe (with_step run event)) now) m

-- why the copy may be refused
abbrev pub RefusesWithin : Type 0
RefusesWithin =
    (run maybe : List RunEvent) (event : NodeEvent) (reply : NodeReply) (old new : NodeState) (files later copy : Files) (create : Bool) (now : ℕ) (e : PlacementOpenError)
    → IsCutOff run maybe event reply old new files later copy → RefusesNode create now e copy → MayRefuse create now e copy
