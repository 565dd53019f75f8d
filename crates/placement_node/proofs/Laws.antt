-- A node at the end of a run, and what a crash leaves of it.
use Rattle.std.proofs.Common.{◌≡◌, inl, inr, ℕ, ◌≤◌, false, List, [], ◌∷◌, ◌++◌, length, Option, Some, None, Result, Ok, refl, sym, ap, ◌∙◌, subst}
use Rattle.disk_model.specs.Disk.{Tells}
use Rattle.disk_model.proofs.Stages.{told_before, tells_map_at, tells_same}
use Rattle.std.proofs.lemmas.List.{append-nil}
use Rattle.tx_journal.specs.declared.error.JournalError.{JournalError}
use Rattle.tx_journal.specs.Runs.{AppendMoves}
use Rattle.tx_journal.specs.File.{Image, with_payload}
use Rattle.tx_journal.specs.Pair.{Files, Holds, LeavesOpened, SinceOpened, IsJust, IsEither}
use Rattle.tx_journal.specs.Calls.{JournalState, told, append_refusal, Commits, Committed}
use Rattle.tx_journal.proofs.Claims.{leaves_weaker, since_opened_weaker, opened_here}
use Rattle.round_core.specs.Runs.{RunEvent, Steps as Stepped, Restarts}
use Rattle.placement_core.specs.Entries.{EntryOf, placement_record}
use Rattle.placement_core.specs.Placement.{PlacementState, new_placement, placement_step, placement_restarted}
use Rattle.placement_core.specs.Runs.{run_state}
use Rattle.placement_node.specs.declared.reply.NodeEvent.{NodeEvent}
use Rattle.placement_node.specs.declared.reply.NodeReply.{NodeReply}
use Rattle.placement_node.specs.Node.{NodeState, Appended, Steps, Works, NodeMoves}
use Rattle.placement_node.specs.Ranges.{EventFits, StateFits, RecordFits}
use Rattle.placement_node.specs.Records.{payload_of, payloads_of}
use Rattle.placement_node.specs.Replies.{Outcome, Done, NoMemory, NoRoom, Failed, Shut, outcome_of}
use Rattle.placement_node.specs.Runs.{reached, with_step, RunFits, AreOfRun, OpensAs, LeftBy, LeftByEither, OpensLeft, IsAt, StepHolds, StepsAtEnd, LeavesEnd}
use Rattle.placement_node.proofs.Fits.{new_fits}
use Rattle.placement_node.proofs.Pushes.{Restores, state_push, of_run_push, opens_run}
use Rattle.placement_node.proofs.Rooms.{state_fits, restart_fits, record_fits}
use Rattle.placement_node.proofs.Sent.{default_named}

-- ---- ranges over runs

fits_from : (s : PlacementState) (run : List RunEvent) → RunFits run → StateFits s → StateFits (run_state s run)
fits_from s [] events fits = fits
fits_from s (Stepped event now ∷ run) events fits = fits_from (placement_step s event now).state run events.1 (state_fits s event now events.0 fits)
fits_from s (Restarts now ∷ run) events fits = fits_from (placement_restarted s now) run events (restart_fits s.rooms now fits)

pub run_fits : (run : List RunEvent) → RunFits run → StateFits (reached run)
run_fits run events = fits_from new_placement run events ((default_named, new_fits _), tt)

pub fits_push : (run : List RunEvent) (event : NodeEvent) → RunFits run → EventFits event.event → RunFits (with_step run event)
fits_push [] event events here = (here, tt)
fits_push (Stepped e now ∷ run) event events here = (events.0, fits_push run event events.1 here)
fits_push (Restarts now ∷ run) event events here = fits_push run event events here

-- ---- claims

one_payload : (es : List EntryOf) (payload : List ℕ) (others : List (List ℕ)) → payloads_of es ≡ payload ∷ others → payloads_of es ≡ payload ∷ []
one_payload [] payload others is = absurd cc
one_payload (e ∷ es) payload others is = let same : payload_of (e ∷ es) ≡ payload = cc in ap (λ (p : List ℕ). p ∷ []) same

module _ (run : List RunEvent) where
  -- files that hold the records of the run
  pub held_left : (held : Image) (files : Files) → AreOfRun run held.payloads → Holds held files → LeavesOpened (LeftBy run) files
  held_left held files reads holds = leaves_weaker (IsJust held) (LeftBy run) files.first files.second (λ r is. (held, is, reads)) holds.leaves

  module _ (event : NodeEvent) (old : NodeState) (sent : EventFits event.event) (at : IsAt run old) where
    abbrev next : PlacementState
    next = reached (with_step run event)

    abbrev es : List EntryOf
    es = placement_record (reached run) event.event event.now

    es_fit : RecordFits es
    es_fit = record_fits (reached run) event.event event.now sent (run_fits run at.fits) (subst (λ (s : PlacementState). length s.rooms ≤ 64) at.state at.rooms.few)

    -- with the record of the step, the payloads are those of the run with it
    more : (payloads : List (List ℕ)) → AreOfRun run payloads → AreOfRun (with_step run event) (payloads ++ payloads_of es)
    more payloads reads = of_run_push run (Stepped event.event event.now) payloads es_fit reads

    either : (held : Image) (payload : List ℕ) → payloads_of es ≡ payload ∷ [] → AreOfRun run held.payloads → (r : Result Image ℕ) → IsEither held (with_payload payload held) r → LeftByEither run (with_step run event) r
    either held payload one reads r (inl is) = inl (held, is, reads)
    either held payload one reads r (inr is) = inr (with_payload payload held, is, subst (λ (ps : List (List ℕ)). AreOfRun (with_step run event) (held.payloads ++ ps)) one (more held.payloads reads))

    -- at each moment of an append
    appends : (payload : List ℕ) (new : JournalState) → payloads_of es ≡ payload ∷ [] → Tells (Commits payload) (told old.journal) (told new) → Tells (SinceOpened (LeftByEither run (with_step run event))) (told old.journal) (told new)
    appends payload new one commits = tells_map_at (Commits payload) (SinceOpened (LeftByEither run (with_step run event))) (told old.journal) (told new)
        (λ f g is commit.
        let held = at.holds f is in
        since_opened_weaker (IsEither held.0 (with_payload payload held.0)) (LeftByEither run (with_step run event)) f.first f.second g.first g.second (either held.0 payload one held.2) (commit held.0 held.1))
        commits

    -- where nothing was written
    rests : (new : JournalState) → new ≡ old.journal → Tells (SinceOpened (LeftByEither run (with_step run event))) (told old.journal) (told new)
    rests new same = tells_map_at (λ f g. f ≡ g) (SinceOpened (LeftByEither run (with_step run event))) (told old.journal) (told new)
        (λ f g is equal.
        let held = at.holds f is in
        subst (SinceOpened (LeftByEither run (with_step run event)) f) equal
        (opened_here (LeftByEither run (with_step run event)) f.first f.second (leaves_weaker (LeftBy run) (LeftByEither run (with_step run event)) f.first f.second (λ r left. inl left) (held_left held.0 f held.2 held.1))))
        (tells_same (λ f g. f ≡ g) (told old.journal) (told new) (λ f. refl) (ap told same))

    -- the state after the step
    next_is : (placement_step old.state event.event event.now).state ≡ next
    next_is = ap (λ (s : PlacementState). (placement_step s event.event event.now).state) at.state ∙ sym (state_push new_placement run (Stepped event.event event.now))

    written_is : payloads_of (placement_record old.state event.event event.now) ≡ payloads_of es
    written_is = ap (λ (s : PlacementState). payloads_of (placement_record s event.event event.now)) at.state

    -- a step that is done
    done_at : (reply : NodeReply) (new : NodeState) → Steps old event reply new → IsAt (with_step run event) new × Tells (SinceOpened (LeftByEither run (with_step run event))) (told old.journal) (told new.journal)
    done_at reply new steps = go (payloads_of es) refl (subst (λ (ps : List (List ℕ)). Appended ps (Ok tt) old.journal new.journal) written_is steps.written)
      where
        at_next : new.journal.is_broken ≡ false → ((files : Files) → told new.journal ≡ Some files → (held : Image) × Holds held files × AreOfRun (with_step run event) held.payloads) → IsAt (with_step run event) new
        at_next whole holds = record { works = whole; state = steps.state ∙ next_is; fits = fits_push run event at.fits sent; rooms = steps.rooms; holds = holds }

        taken : (payload : List ℕ) → AppendMoves payload (Ok tt) old.journal new.journal → new.journal.is_broken ≡ false
        taken payload moves = by_refusal (append_refusal old.journal payload) refl
          where
            by_refusal : (r : Option JournalError) → append_refusal old.journal payload ≡ r → new.journal.is_broken ≡ false
            by_refusal None is = ap (λ (j : JournalState). j.is_broken) (moves.taken is).0 ∙ at.works
            by_refusal (Some e) is = absurd (let both = (moves.refused e is).0 in cc (both))

        go : (ps : List (List ℕ)) → payloads_of es ≡ ps → Appended ps (Ok tt) old.journal new.journal → IsAt (with_step run event) new × Tells (SinceOpened (LeftByEither run (with_step run event))) (told old.journal) (told new.journal)
        go [] one same = (
          at_next (ap (λ (j : JournalState). j.is_broken) same ∙ at.works)
              (λ files is.
              let held = at.holds files (ap told (sym same) ∙ is) in
              (held.0, held.1, subst (AreOfRun (with_step run event)) (ap (λ (ps : List (List ℕ)). held.0.payloads ++ ps) one ∙ append-nil held.0.payloads) (more held.0.payloads held.2))),
          rests new.journal same,
        )
        go (payload ∷ others) one moves =
            let just : payloads_of es ≡ payload ∷ [] = one_payload es payload others one in (
              at_next (taken payload moves)
                  (λ files is.
                  let before = told_before (Committed payload) (told old.journal) (told new.journal) files moves.done is in
                  let held = at.holds before.0 before.1 in
                  (with_payload payload held.0, before.2 held.0 held.1, subst (λ (ps : List (List ℕ)). AreOfRun (with_step run event) (held.0.payloads ++ ps)) just (more held.0.payloads held.2))),
              appends payload new.journal just moves.crash,
            )

    -- what a step does, by what came of it
    by_outcome : (reply : NodeReply) (new : NodeState) (o : Outcome) → Works old event reply new o → Tells (SinceOpened (LeftByEither run (with_step run event))) (told old.journal) (told new.journal) × (o ≡ Done → IsAt (with_step run event) new)
    by_outcome reply new Done works = let done = done_at reply new works in (done.1, λ is. done.0)
    by_outcome reply new NoMemory works = (rests new.journal (ap (λ (n : NodeState). n.journal) works), λ is. absurd (let e : NoMemory ≡ Done = is in cc))
    by_outcome reply new (NoRoom len) works = (rests new.journal (ap (λ (n : NodeState). n.journal) works.1), λ is. absurd (let e : NoRoom len ≡ Done = is in cc))
    by_outcome reply new Failed works = (appends works.payload new.journal (sym written_is ∙ works.is) works.written.crash, λ is. absurd (let e : Failed ≡ Done = is in cc))
    by_outcome reply new Shut works = absurd works

    pub step_holds : (reply : NodeReply) (new : NodeState) → NodeMoves old event reply new → StepHolds run event reply old new
    step_holds reply new moves = let did = by_outcome reply new (outcome_of reply) (moves.works at.works) in record { risks = did.0; done = did.1 }

pub steps_at_end : StepsAtEnd
steps_at_end run event reply old new sent at moves = step_holds run event old sent at reply new moves

pub leaves_end : LeavesEnd
leaves_end run n files at is = let held = at.holds files is in held_left run held.0 files held.2 held.1

-- what is left opens as the restart of the run's last state
pub left_opens : Restores → OpensLeft
left_opens restored run r left = subst (OpensAs (reached run)) (sym left.1) (opens_run restored run left.0 left.2)
