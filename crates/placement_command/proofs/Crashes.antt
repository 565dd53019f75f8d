-- What a crash leaves of a node over a legal history of its steps.
use Rattle.std.proofs.Common.{◌≡◌, ℕ, Bool, true, false, List, [], ◌∷◌, Option, Some, refl, sym, ◌∙◌, subst}
use Rattle.disk_model.specs.Disk.{DiskState, Tells}
use Rattle.step_gate.specs.History.{HistoryLeadsTo}
use Rattle.tx_journal.specs.Calls.{told, tell_one}
use Rattle.tx_journal.specs.Pair.{Files}
use Rattle.round_core.specs.Runs.{RunEvent}
use Rattle.placement_core.specs.Runs.{AreRooms}
use Rattle.placement_node.specs.declared.reply.NodeEvent.{NodeEvent}
use Rattle.placement_node.specs.declared.reply.NodeReply.{NodeReply}
use Rattle.placement_node.specs.Node.{NodeState, NodeAllows}
use Rattle.placement_node.specs.Openings.{OpensNode}
use Rattle.placement_node.specs.Replies.{outcome_of}
use Rattle.placement_node.specs.Runs.{with_restart, IsAt, after_outcome, OpensAtEnd, StepsAtEnd, StandsAfter}
use Rattle.placement_node.specs.Histories.{NodeHistory, steps_of, run_after, FollowsHistory}
use Rattle.placement_command.specs.Runs.{RisksOne, RisksEach, KeepsAll, HoldsRun}

clash : (b : Bool) → b ≡ true → b ≡ false → ⊥
clash b is other = let e : true ≡ false = sym is ∙ other in cc

-- a node that was opened on the records of a run
pub goes_on : OpensAtEnd → (create : Bool) (now : ℕ) (disk : Option DiskState) (n : NodeState)
    → Tells (OpensNode create now n.state) (tell_one disk) (told n.journal) → AreRooms n.state.rooms → n.journal.is_broken ≡ false
    → (run : List RunEvent) → HoldsRun create disk run → IsAt (with_restart run now) n
goes_on opens create now disk n tells rooms works run holds =
    opens run create now n holds.files holds.fits rooms works holds.records (subst (λ (files : Option Files). Tells (OpensNode create now n.state) files (told n.journal)) holds.tells tells)

-- ---- the steps

-- the node is at the end of this run, if it has met no fault
abbrev WorksAt : List RunEvent → NodeState → Type 0
WorksAt run n = n.journal.is_broken ≡ false → IsAt run n

module _ (steps_law : StepsAtEnd) (stands_law : StandsAfter) where
  -- one step more
  step_works : (run : List RunEvent) (event : NodeEvent) (reply : NodeReply) (old new : NodeState) → WorksAt run old → NodeAllows old event reply new
      → RisksOne run old event new × WorksAt (after_outcome run event (outcome_of reply)) new
  step_works run event reply old new works allows = go old.journal.is_broken refl
    where
      go : (b : Bool) → old.journal.is_broken ≡ b → RisksOne run old event new × WorksAt (after_outcome run event (outcome_of reply)) new
      go false whole =
          let at = works whole in
          let stands = stands_law run (after_outcome run event (outcome_of reply)) old new ((event, reply) ∷ []) at (new, allows.2, allows.0, (refl, refl)) in
          (λ w. (steps_law run event reply old new allows.2 at allows.0).risks, stands.works)
      go true broken =
          let shut = allows.0.shut broken in (
            λ whole. absurd (clash old.journal.is_broken broken whole),
            subst (λ (r : NodeReply). WorksAt (after_outcome run event (outcome_of r)) new) (sym shut.0) (subst (WorksAt run) (sym shut.1) works),
          )

  each_risks : (steps : List (NodeEvent × NodeReply)) (run : List RunEvent) (old : NodeState) → WorksAt run old → RisksEach run old steps
  each_risks [] run old works = tt
  each_risks (step ∷ steps) run old works = λ mid allows.
      let next = step_works run step.0 step.1 old mid works allows in
      (next.0, each_risks steps (after_outcome run step.0 (outcome_of step.1)) mid next.1)

  pub keeps_all : FollowsHistory → (old new : NodeState) (h : NodeHistory) → HistoryLeadsTo NodeAllows old h new → (run : List RunEvent) → IsAt run old → KeepsAll run old (steps_of h) new
  keeps_all follows old new h leads run at =
      record { each = each_risks (steps_of h) run old (λ whole. at); left = stands_law run (run_after run (steps_of h)) old new (steps_of h) at (follows run old new h leads) }
