-- What a run of the placement does to the disk of its host, and what a crash leaves of it. Own.
use Rattle.std.specs.Prelude.{◌≡◌, ◌⊎◌, ℕ, Bool, false, List, [], ◌∷◌, Option, Some, None}
use Rattle.actor_names.specs.declared.address.Address.{Address}
use Rattle.disk_model.specs.Disk.{DiskState, Tells}
use Rattle.server_ports.specs.Hosts.{Opened, Handed, nothing_handed}
use Rattle.step_gate.specs.History.{HistoryLeadsTo}
use Rattle.tx_journal.specs.declared.error.JournalError.{JournalError}
use Rattle.tx_journal.specs.declared.error.JournalError.TheVariants as errors
use Rattle.tx_journal.specs.Calls.{told, tell_one, first_side}
use Rattle.tx_journal.specs.File.{Image}
use Rattle.tx_journal.specs.Pair.{Files, SinceOpened}
use Rattle.round_core.specs.Runs.{RunEvent}
use Rattle.placement_node.specs.declared.error.PlacementOpenError.{PlacementOpenError}
use Rattle.placement_node.specs.declared.error.PlacementOpenError.TheVariants.{Journal, BadRecord}
use Rattle.placement_node.specs.declared.reply.NodeEvent.{NodeEvent}
use Rattle.placement_node.specs.declared.reply.NodeReply.{NodeReply}
use Rattle.placement_node.specs.Node.{NodeState, NodeAllows}
use Rattle.placement_node.specs.Openings.{Finds, OpensNode, KeepsNode, RefusesNode, IsNodeError}
use Rattle.placement_node.specs.Replies.{outcome_of}
use Rattle.placement_node.specs.Runs.{with_step, with_restart, RunFits, AreOfRun, LeftByEither, IsAt, Stands, after_outcome, run_at_fault}
use Rattle.placement_node.specs.Histories.{NodeHistory, steps_of, run_after}
use Rattle.placement_command.specs.declared.command.PlacementEnd.{PlacementEnd}
use Rattle.placement_command.specs.declared.command.PlacementEnd.TheVariants as ends

-- ---- a node that was opened

-- in a step of a node that has met no fault, at the end of this run, whatever a crash leaves at any moment has the records
-- of the run, or of the run with this step
abbrev pub RisksOne : List RunEvent → NodeState → NodeEvent → NodeState → Type 0
RisksOne run old event new = old.journal.is_broken ≡ false → Tells (SinceOpened (LeftByEither run (with_step run event))) (told old.journal) (told new.journal)

-- the same for every step of a list
abbrev pub RisksEach : List RunEvent → NodeState → List (NodeEvent × NodeReply) → Type 0
RisksEach run old [] = Unit {0}
RisksEach run old (step ∷ steps) = (mid : NodeState) → NodeAllows old step.0 step.1 mid → RisksOne run old step.0 mid × RisksEach (after_outcome run step.0 (outcome_of step.1)) mid steps

-- What a crash leaves of a node's file while these steps lead from one state, at the end of this run, to another.
-- Whatever a crash leaves at any moment of a step has the records of the run before the step, or with it; at the end those
-- of the whole run or, after a fault, perhaps of the run up to the step that met it, and with it. Only the steps that were
-- done count.
pub record KeepsAll (run : List RunEvent) (old : NodeState) (steps : List (NodeEvent × NodeReply)) (new : NodeState) : Type 0 where
  pub each : RisksEach run old steps
  pub left : Stands (run_after run steps) (run_at_fault run steps) new

-- All that happened to an open node was one legal history of its steps, and its disk was given back as the last step
-- left it. What a crash leaves goes by the run at whose end the node was.
pub record ServesNode (n : NodeState) (back : List (Option DiskState)) : Type 0 where
  pub history : NodeHistory
  pub last : NodeState
  pub leads : HistoryLeadsTo NodeAllows n history last
  pub keeps : (run : List RunEvent) → IsAt run n → KeepsAll run n (steps_of history) last
  pub returned : back ≡ (first_side last.journal).told ∷ []

-- an end by the ports alone: no disk has failed, and none is damaged
abbrev pub IsPortsEnd : PlacementEnd → Type 0
IsPortsEnd ends.Done = Unit {0}
IsPortsEnd ends.PortFault = Unit {0}
IsPortsEnd ends.OutOfMemory = Unit {0}
IsPortsEnd ends.DiskFault = ⊥
IsPortsEnd (ends.Damaged offset) = ⊥

-- a run that has opened its node isn't told as damaged
abbrev pub IsServedEnd : PlacementEnd → Type 0
IsServedEnd ends.Done = Unit {0}
IsServedEnd ends.DiskFault = Unit {0}
IsServedEnd ends.PortFault = Unit {0}
IsServedEnd ends.OutOfMemory = Unit {0}
IsServedEnd (ends.Damaged offset) = ⊥

-- it was served; or there was no memory for that, and it is lost with its disk
abbrev pub EndsNode : NodeState → PlacementEnd → List (Option DiskState) → Type 0
EndsNode n end back = (IsServedEnd end × ServesNode n back) ⊎ ((end ≡ ends.OutOfMemory) × (back ≡ []))

-- ---- the opening

abbrev pub end_by : JournalError → PlacementEnd
end_by errors.DiskFault = ends.DiskFault
end_by (errors.Damaged offset) = ends.Damaged offset
end_by (errors.Full len) = ends.Damaged len
end_by (errors.TooLong n) = ends.OutOfMemory
end_by errors.Reopen = ends.OutOfMemory
end_by errors.NotStarted = ends.OutOfMemory
end_by errors.OneDisk = ends.OutOfMemory
end_by (errors.Spent count) = ends.OutOfMemory
end_by errors.OutOfMemory = ends.OutOfMemory

-- how the command ends if the node isn't opened: what has an offset is printed, and all but a fault is want of memory
abbrev pub end_of : PlacementOpenError → PlacementEnd
end_of (BadRecord index offset) = ends.Damaged offset
end_of (Journal error) = end_by error

-- the disk told a file whose records are those that this run leaves, and the run's events fit frames
pub record HoldsRun (create : Bool) (disk : Option DiskState) (run : List RunEvent) : Type 0 where
  pub files : Files
  pub tells : tell_one disk ≡ Some files
  pub fits : RunFits run
  pub records : (found : Image) → Finds create files found → AreOfRun run found.payloads

-- the node was opened at this moment from a disk that told this; on the records of a run it goes on where the run ended
pub record OpensDisk (create : Bool) (now : ℕ) (disk : Option DiskState) (n : NodeState) : Type 0 where
  pub opened : Tells (OpensNode create now n.state) (tell_one disk) (told n.journal)
  pub crash : Tells (KeepsNode create now) (tell_one disk) (told n.journal)
  pub works : n.journal.is_broken ≡ false
  pub goes_on : (run : List RunEvent) → HoldsRun create disk run → IsAt (with_restart run now) n

-- the node wasn't opened, for this; the disk was given back
pub record RefusesDisk (create : Bool) (now : ℕ) (disk : Option DiskState) (e : PlacementOpenError) (back : List (Option DiskState)) : Type 0 where
  pub error : IsNodeError e
  pub cause : (files : Files) → tell_one disk ≡ Some files → RefusesNode create now e files
  pub disk_back : Option DiskState
  pub returned : back ≡ disk_back ∷ []
  pub crash : Tells (KeepsNode create now) (tell_one disk) (tell_one disk_back)

-- what came of the disk: the node was refused with the error that the end tells, or it was opened
abbrev pub RunsDisk : Bool → ℕ → Option DiskState → PlacementEnd → List (Option DiskState) → Type 0
RunsDisk create now disk end back =
    ((e : PlacementOpenError) × (end ≡ end_of e) × RefusesDisk create now disk e back) ⊎ ((n : NodeState) × OpensDisk create now disk n × EndsNode n end back)

-- ---- the disk of a run

-- the disk can't be opened: it failed, or there was no memory
abbrev pub IsUnopened : PlacementEnd → Type 0
IsUnopened end = (end ≡ ends.DiskFault) ⊎ (end ≡ ends.OutOfMemory)

-- only given back
abbrev pub given_back : List (Option DiskState) → Handed
given_back back = record { opened = []; returned = back }

-- a disk of the path of the words: made if there is none only if they say so
abbrev pub disk_opened : List ℕ → Bool → Option DiskState → Opened
disk_opened path is_new state = record { path = path; create = is_new; state = state }

-- a run that hasn't opened its node for want of its standby
abbrev pub IsUncopied : PlacementEnd → Type 0
IsUncopied end = (end ≡ ends.PortFault) ⊎ IsUnopened end

-- what came of a disk with a standby: that wasn't reached, or it didn't get the bytes of the disk, and the disk was given
-- back as it was; or what comes of a disk without one
abbrev pub RunsMirrored : Bool → ℕ → Option DiskState → PlacementEnd → List (Option DiskState) → Type 0
RunsMirrored create now disk end back = (IsUncopied end × (back ≡ disk ∷ [])) ⊎ RunsDisk create now disk end back

abbrev pub RunsWith : Option Address → Bool → ℕ → Option DiskState → PlacementEnd → List (Option DiskState) → Type 0
RunsWith None create now disk end back = RunsDisk create now disk end back
RunsWith (Some standby) create now disk end back = RunsMirrored create now disk end back

-- What a run does to its disk, with this standby or none: it opens none; or this one, and what comes of it.
abbrev pub RunsPlacement : Option Address → List ℕ → Bool → ℕ → PlacementEnd → Handed → Type 0
RunsPlacement standby path is_new now end given =
    ((given ≡ nothing_handed) × IsUnopened end)
    ⊎ ((disk : Option DiskState) × (back : List (Option DiskState)) × (given ≡ record { opened = disk_opened path is_new disk ∷ []; returned = back }) × RunsWith standby is_new now disk end back)
