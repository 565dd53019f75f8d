-- What holds of a node after any list of steps.
use Rattle.std.proofs.Common.{◌≡◌, inl, ℕ, ◌+◌, Bool, true, false, cond, List, [], ◌∷◌, length, Option, Some, None, Err, refl, sym, ap, ◌∙◌, subst}
use Rattle.std.specs.Prelude.{nat_lt}
use Rattle.disk_model.specs.Disk.{Tells}
use Rattle.disk_model.proofs.Stages.{told_before}
use Rattle.tx_journal.specs.declared.error.JournalError.{JournalError}
use Rattle.tx_journal.specs.declared.error.JournalError.TheVariants as faults
use Rattle.tx_journal.specs.Runs.{AppendMoves}
use Rattle.tx_journal.specs.File.{longest, most_bytes}
use Rattle.tx_journal.specs.Pair.{SinceOpened}
use Rattle.tx_journal.specs.Calls.{JournalState, told, append_refusal}
use Rattle.tx_journal.proofs.Claims.{leaves_weaker, opened_now}
use Rattle.round_core.specs.Runs.{RunEvent}
use Rattle.placement_node.specs.declared.reply.NodeEvent.{NodeEvent}
use Rattle.placement_node.specs.declared.reply.NodeReply.{NodeReply}
use Rattle.placement_node.specs.Node.{NodeState, Fails, Works}
use Rattle.placement_node.specs.Ranges.{EventFits}
use Rattle.placement_node.specs.Replies.{Outcome, Done, NoMemory, NoRoom, Failed, Shut, outcome_of}
use Rattle.placement_node.specs.Runs.{with_step, RunFits, LeftBy, LeftByEither, IsAt, StepHolds, after_outcome, fault_or, run_at_fault, Follows, Stands, StandsAfter}
use Rattle.placement_node.proofs.Laws.{held_left, fits_push, step_holds}

-- an append is never refused for a fault
not_fault : (j : JournalState) (payload : List ℕ) → append_refusal j payload ≡ Some faults.DiskFault → ⊥
not_fault j payload = go j.is_broken (nat_lt longest (length payload)) (nat_lt most_bytes (j.end + 5 + length payload))
  where
    go : (a b c : Bool) → cond a (Some faults.Reopen) (cond b (Some (faults.TooLong (length payload))) (cond c (Some (faults.Full j.end)) None)) ≡ Some faults.DiskFault → ⊥
    go true b c is = let no : Some faults.Reopen ≡ Some faults.DiskFault = is in cc
    go false true c is = let no : Some (faults.TooLong (length payload)) ≡ Some faults.DiskFault = is in cc
    go false false true is = let no : Some (faults.Full j.end) ≡ Some faults.DiskFault = is in cc
    go false false false is = let no : None ≡ Some faults.DiskFault = is in cc

fault_breaks : (payload : List ℕ) (old new : JournalState) → AppendMoves payload (Err faults.DiskFault) old new → new.is_broken ≡ true
fault_breaks payload old new moves = go (append_refusal old payload) refl
  where
    go : (r : Option JournalError) → append_refusal old payload ≡ r → new.is_broken ≡ true
    go None is = ap (λ (j : JournalState). j.is_broken) (moves.taken is).0
    go (Some e) is =
        let both : Err faults.DiskFault ≡ Err e = (moves.refused e is).0 in
        let same : faults.DiskFault ≡ e = cc in
        absurd (not_fault old payload (is ∙ ap (λ (x : JournalError). Some x) (sym same)))

clash : (b : Bool) → b ≡ true → b ≡ false → ⊥
clash b is other = let e : true ≡ false = sym is ∙ other in cc

-- a node at the end of a run
at_stands : (run : List RunEvent) (n : NodeState) → IsAt run n → Stands run run n
at_stands run n at = record {
  works = λ whole. at;
  fits = (at.fits, at.fits);
  leaves = λ files is.
      let held = at.holds files is in
      leaves_weaker (LeftBy run) (LeftByEither run run) files.first files.second (λ r left. inl left) (held_left run held.0 files held.2 held.1);
}

-- a step that met a fault
failed_stands : (run : List RunEvent) (event : NodeEvent) (old new : NodeState) → RunFits run → EventFits event.event → Fails old event new → Tells (SinceOpened (LeftByEither run (with_step run event))) (told old.journal) (told new.journal) → Stands run (with_step run event) new
failed_stands run event old new fits sent fails risks = record {
  works = λ whole. absurd (clash new.journal.is_broken (fault_breaks fails.payload old.journal new.journal fails.written) whole);
  fits = (fits, fits_push run event fits sent);
  leaves = λ files is.
      let before = told_before (SinceOpened (LeftByEither run (with_step run event))) (told old.journal) (told new.journal) files risks is in
      opened_now (LeftByEither run (with_step run event)) before.0.first before.0.second files.first files.second before.2;
}

-- after a fault nothing changes
shut_follows : (entries : List (NodeEvent × NodeReply)) (run maybe more : List RunEvent) (old new : NodeState) → old.journal.is_broken ≡ true → Stands run maybe old → Follows run old entries more new → Stands more maybe new
shut_follows [] run maybe more old new broken stands follows = subst (λ (r : List RunEvent). Stands r maybe new) (sym follows.0) (subst (Stands run maybe) (sym follows.1) stands)
shut_follows (entry ∷ entries) run maybe more old new broken stands follows =
    let shut = follows.2.shut broken in
    let rest = subst (λ (r : NodeReply). Follows (after_outcome run entry.0 (outcome_of r)) follows.0 entries more new) shut.0 follows.3 in
    shut_follows entries run maybe more follows.0 new (ap (λ (n : NodeState). n.journal.is_broken) shut.1 ∙ broken) (subst (Stands run maybe) (sym shut.1) stands) rest

all_stand : (entries : List (NodeEvent × NodeReply)) (run more : List RunEvent) (old new : NodeState) → IsAt run old → Follows run old entries more new → Stands more (run_at_fault run entries) new
all_stand [] run more old new at follows = subst (λ (r : List RunEvent). Stands r run new) (sym follows.0) (subst (Stands run run) (sym follows.1) (at_stands run old at))
all_stand (entry ∷ entries) run more old new at follows =
    let holds = step_holds run entry.0 old follows.1 at entry.1 follows.0 follows.2 in
    go (λ on mid at rest. all_stand entries on more mid new at rest) (outcome_of entry.1) refl (follows.2.works at.works) holds follows.3
  where
    go : ((on : List RunEvent) (mid : NodeState) → IsAt on mid → Follows on mid entries more new → Stands more (run_at_fault on entries) new) → (o : Outcome) → outcome_of entry.1 ≡ o → Works old entry.0 entry.1 follows.0 o → StepHolds run entry.0 entry.1 old follows.0 → Follows (after_outcome run entry.0 o) follows.0 entries more new
        → Stands more (fault_or run entry.0 o (run_at_fault (after_outcome run entry.0 o) entries)) new
    go ih Done is works holds rest = ih (with_step run entry.0) follows.0 (holds.done is) rest
    go ih NoMemory is works holds rest = ih run follows.0 (subst (IsAt run) (sym works) at) rest
    go ih (NoRoom len) is works holds rest = ih run follows.0 (subst (IsAt run) (sym works.1) at) rest
    go ih Failed is works holds rest =
        shut_follows entries run (with_step run entry.0) more follows.0 new (fault_breaks works.payload old.journal follows.0.journal works.written)
        (failed_stands run entry.0 old follows.0 at.fits follows.1 works holds.risks) rest
    go ih Shut is works holds rest = absurd works

pub stands_after : StandsAfter
stands_after run more old new entries at follows = all_stand entries run more old new at follows
