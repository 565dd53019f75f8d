-- A node over lists of steps and restarts: own.
use Rattle.std.specs.Prelude.{◌≡◌, ◌<◌, ◌≤◌, ◌⊎◌, ℕ, Bool, false, List, [], ◌∷◌, ◌++◌, Option, None, Some, Result, Ok}
use Rattle.disk_model.specs.Disk.{Tells}
use Rattle.frame_wire.specs.declared.frame.Frame.TheVariants as frames
use Rattle.tx_journal.specs.File.{Image}
use Rattle.tx_journal.specs.Pair.{Files, Claim, Holds, LeavesOpened, SinceOpened}
use Rattle.tx_journal.specs.Calls.{told}
use Rattle.round_core.specs.Room.{last_version}
use Rattle.round_core.specs.Runs.{RunEvent, Steps as Stepped, Restarts}
use Rattle.placement_core.specs.Placement.{PlacementState, new_placement, room_of, placement_restarted}
use Rattle.placement_core.specs.Runs.{AreRooms, run_records, run_state}
use Rattle.placement_node.specs.declared.reply.NodeEvent.{NodeEvent}
use Rattle.placement_node.specs.declared.reply.NodeReply.{NodeReply}
use Rattle.placement_node.specs.declared.reply.NodeReply.TheVariants.{Message, Seen, Ticked}
use Rattle.placement_node.specs.Found.{placement_found}
use Rattle.placement_node.specs.Node.{NodeState, NodeMoves}
use Rattle.placement_node.specs.Openings.{Finds, OpensNode}
use Rattle.placement_node.specs.Ranges.{EventFits}
use Rattle.placement_node.specs.Records.{records_in}
use Rattle.placement_node.specs.Replies.{event_space, Outcome, Done, NoMemory, NoRoom, Failed, Shut, outcome_of}

-- the state to which a run leads
abbrev pub reached : List RunEvent → PlacementState
reached run = run_state new_placement run

-- the run with one step more, and with one restart more
abbrev pub with_step : List RunEvent → NodeEvent → List RunEvent
with_step run e = run ++ Stepped e.event e.now ∷ []

abbrev pub with_restart : List RunEvent → ℕ → List RunEvent
with_restart run now = run ++ Restarts now ∷ []

-- the hosts and members of a run's events have the forms and ranges of frames
abbrev pub RunFits : List RunEvent → Type 0
RunFits [] = Unit {0}
RunFits (Stepped event now ∷ run) = EventFits event × RunFits run
RunFits (Restarts now ∷ run) = RunFits run

-- these payloads hold the records that the run leaves
abbrev pub AreOfRun : List RunEvent → List (List ℕ) → Type 0
AreOfRun run payloads = records_in payloads ≡ Some (run_records new_placement run)

-- ---- what a crash leaves

-- a file of these payloads opens, at any moment, as the restart of this state
abbrev pub OpensAs : PlacementState → Claim
OpensAs s r = (held : Image) × (r ≡ Ok held) × ((now : ℕ) → placement_found held.payloads now ≡ Ok (placement_restarted s now))

-- the file has the records that this run leaves
abbrev pub LeftBy : List RunEvent → Claim
LeftBy run r = (held : Image) × (r ≡ Ok held) × AreOfRun run held.payloads

-- those of this run or of that one
abbrev pub LeftByEither : List RunEvent → List RunEvent → Claim
LeftByEither run other r = LeftBy run r ⊎ LeftBy other r

-- such a file opens, at any moment, as the restart of the state to which the run leads
abbrev pub OpensLeft : Type 0
OpensLeft = (run : List RunEvent) (r : Result Image ℕ) → LeftBy run r → OpensAs (reached run) r

-- ---- a node at the end of a run

-- The node has met no fault, its state is the one to which the run leads, and its journal holds the run's records.
pub record IsAt (run : List RunEvent) (n : NodeState) : Type 0 where
  pub works : n.journal.is_broken ≡ false
  pub state : n.state ≡ reached run
  pub fits : RunFits run
  pub rooms : AreRooms n.state.rooms
  pub holds : (files : Files) → told n.journal ≡ Some files → (held : Image) × Holds held files × AreOfRun run held.payloads

-- What a step does at the end of a run: whatever a crash leaves at any moment of it has the records of the run, with this
-- step or without it; once the step is done, the node is at the end of the run with this step.
pub record StepHolds (run : List RunEvent) (event : NodeEvent) (reply : NodeReply) (old new : NodeState) : Type 0 where
  pub risks : Tells (SinceOpened (LeftByEither run (with_step run event))) (told old.journal) (told new.journal)
  pub done : outcome_of reply ≡ Done → IsAt (with_step run event) new

-- a node that is opened on files with the records of a run is at the end of the run with this restart
abbrev pub OpensAtEnd : Type 0
OpensAtEnd =
    (run : List RunEvent) (create : Bool) (now : ℕ) (n : NodeState) (files : Files)
    → RunFits run → AreRooms n.state.rooms → n.journal.is_broken ≡ false → ((found : Image) → Finds create files found → AreOfRun run found.payloads)
    → Tells (OpensNode create now n.state) (Some files) (told n.journal) → IsAt (with_restart run now) n

-- a step of a node at the end of a run
abbrev pub StepsAtEnd : Type 0
StepsAtEnd = (run : List RunEvent) (event : NodeEvent) (reply : NodeReply) (old new : NodeState) → EventFits event.event → IsAt run old → NodeMoves old event reply new → StepHolds run event reply old new

-- a crash now leaves a file with the records of the run
abbrev pub LeavesEnd : Type 0
LeavesEnd = (run : List RunEvent) (n : NodeState) (files : Files) → IsAt run n → told n.journal ≡ Some files → LeavesOpened (LeftBy run) files

-- ---- lists of steps

-- the run after a step: only a step that was done counts
abbrev pub after_outcome : List RunEvent → NodeEvent → Outcome → List RunEvent
after_outcome run e Done = with_step run e
after_outcome run e NoMemory = run
after_outcome run e (NoRoom len) = run
after_outcome run e Failed = run
after_outcome run e Shut = run

-- the run with a step that met a disk fault; after any other outcome, this run
abbrev pub fault_or : List RunEvent → NodeEvent → Outcome → List RunEvent → List RunEvent
fault_or run e Failed later = with_step run e
fault_or run e Done later = later
fault_or run e NoMemory later = later
fault_or run e (NoRoom len) later = later
fault_or run e Shut later = later

-- the run that may have been left in its place: up to the first step that met a disk fault, and with it
abbrev pub run_at_fault : List RunEvent → List (NodeEvent × NodeReply) → List RunEvent
run_at_fault run [] = run
run_at_fault run (step ∷ steps) = fault_or run step.0 (outcome_of step.1) (run_at_fault (after_outcome run step.0 (outcome_of step.1)) steps)

-- a list of steps with their replies leads from one node to the next
abbrev pub Follows : List RunEvent → NodeState → List (NodeEvent × NodeReply) → List RunEvent → NodeState → Type 0
Follows run old [] more new = (more ≡ run) × (new ≡ old)
Follows run old (entry ∷ entries) more new =
    (mid : NodeState) × EventFits entry.0.event × NodeMoves old entry.0 entry.1 mid × Follows (after_outcome run entry.0 (outcome_of entry.1)) mid entries more new

-- The node is at the end of the run, or has met a fault: then a crash leaves the records of the run, or of that one.
pub record Stands (run maybe : List RunEvent) (n : NodeState) : Type 0 where
  pub works : n.journal.is_broken ≡ false → IsAt run n
  pub fits : RunFits run × RunFits maybe
  pub leaves : (files : Files) → told n.journal ≡ Some files → LeavesOpened (LeftByEither run maybe) files

-- after any list of steps a crash leaves the records of the steps that were done, perhaps with the one that met a fault
abbrev pub StandsAfter : Type 0
StandsAfter = (run more : List RunEvent) (old new : NodeState) (entries : List (NodeEvent × NodeReply)) → IsAt run old → Follows run old entries more new → Stands more (run_at_fault run entries) new

-- ---- versions

-- the version that a message names
abbrev pub version_told : NodeReply → Option ℕ
version_told (Message (frames.Lock version)) = Some version
version_told (Message (frames.Update version hosts)) = Some version
version_told (Message (frames.Unlock version)) = Some version
version_told (Message frame) = None
version_told (Seen rooms) = None
version_told (Ticked dropped) = None

-- a version that is told is the last one that the space has used in the run with this step
abbrev pub TellsLast : Type 0
TellsLast =
    (run : List RunEvent) (event : NodeEvent) (reply : NodeReply) (old new : NodeState) (version : ℕ)
    → IsAt run old → NodeMoves old event reply new → version_told reply ≡ Some version → version ≡ last_version (room_of (reached (with_step run event)) (event_space event.event))

-- The last version that a space has used never falls, whatever follows, restarts too: since a round takes the version
-- above it, no version is used twice.
abbrev pub VersionsRise : Type 0
VersionsRise = (run more : List RunEvent) (space : List ℕ) → last_version (room_of (reached run) space) ≤ last_version (room_of (reached (run ++ more)) space)

-- A version that is told after a restart is above every one that was told in its space before it, whatever came before,
-- between and after.
abbrev pub VersionsAbove : Type 0
VersionsAbove =
    (run between more : List RunEvent) (now : ℕ) (first later : NodeEvent) (before after : NodeReply) (a b c d : NodeState) (v w : ℕ)
    → IsAt run a → NodeMoves a first before b → version_told before ≡ Some v
    → IsAt (with_restart (with_step run first ++ between) now ++ more) c → NodeMoves c later after d → version_told after ≡ Some w
    → event_space later.event ≡ event_space first.event → v < w
