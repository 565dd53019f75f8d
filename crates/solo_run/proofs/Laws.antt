-- What a run's log says of the turns of one actor.
use Rattle.std.proofs.Common.{◌≡◌, ℕ, List, [], ◌∷◌, ◌++◌, None, sym, ap, subst, ◌∙◌}
use Rattle.actor_names.specs.Names.{before_slash}
use Rattle.turn_core.specs.CellMarks.{TurnsIsolated, open_after}
use Rattle.world_events.specs.Solo.{SoloEvent}
use Rattle.solo_run.specs.World.{SoloState, TypeDepth, depth_of, cell_at, marks_of, solo_step, refusal_of}
use Rattle.solo_run.specs.Runs.{run_from, log_from, marks_from, solo_run, solo_log, solo_marks}
use Rattle.solo_run.specs.TurnsTold.{actor_turns, call_turns, open_turns, turns_at, turns_of_log}
use Rattle.solo_run.proofs.ActorMarks.{CellTold, told_isolated}
use Rattle.solo_run.proofs.RunFollows.{solo_follows}
use Rattle.solo_run.proofs.RunTurns.{solo_turns}
use Rattle.solo_run.proofs.StepMarks.{left_open, solo_kept}
use Rattle.solo_run.proofs.StepTurns.{solo_told}

module _ (depths : List TypeDepth) (events : List SoloEvent) where
  -- the marks of one actor are its turns in the log
  pub marks-told : (key : List ℕ) → marks_of key (solo_marks depths events) ≡ turns_at depths key (solo_log depths events)
  marks-told key = ap (marks_of key) (solo_turns depths events)

  -- its cell against its turns in the log
  cell_told : (key : List ℕ) → CellTold (depth_of (before_slash key) depths) (cell_at key (solo_run depths events).actors) (turns_at depths key (solo_log depths events))
  cell_told key =
      let w = solo_run depths events in
      let kept : CellTold (depth_of (before_slash key) w.depths) (cell_at key w.actors) (marks_of key (solo_marks depths events)) = solo_kept depths events key in
      subst (λ (ds : List TypeDepth). CellTold (depth_of (before_slash key) ds) (cell_at key w.actors) (turns_at depths key (solo_log depths events))) (solo_follows depths events).same_depths
      (subst (λ ms. CellTold (depth_of (before_slash key) w.depths) (cell_at key w.actors) ms) (marks-told key) kept)

  pub turns_isolated : (key : List ℕ) → TurnsIsolated (depth_of (before_slash key) depths) (turns_at depths key (solo_log depths events))
  turns_isolated key = told_isolated (depth_of (before_slash key) depths) (cell_at key (solo_run depths events).actors) (turns_at depths key (solo_log depths events)) (cell_told key)

  pub turns_open : (key : List ℕ) → open_after [] (turns_at depths key (solo_log depths events)) ≡ open_turns key (solo_run depths events)
  turns_open key = left_open (depth_of (before_slash key) depths) (cell_at key (solo_run depths events).actors) (turns_at depths key (solo_log depths events)) (cell_told key)

  -- the same for the cells' own marks and the depths of the last state
  pub marks_isolated : (key : List ℕ) → TurnsIsolated (depth_of (before_slash key) (solo_run depths events).depths) (marks_of key (solo_marks depths events))
  marks_isolated key =
      let w = solo_run depths events in
      told_isolated (depth_of (before_slash key) w.depths) (cell_at key w.actors) (marks_of key (solo_marks depths events)) (solo_kept depths events key)

  -- every turn in the outcomes has its actor
  pub turns_each : call_turns (actor_turns depths (solo_log depths events)) ≡ turns_of_log (solo_log depths events)
  turns_each = ap call_turns (sym (solo_turns depths events)) ∙ solo_told depths events

-- ---- an event that isn't refused, at the head of a list

module _ (w : SoloState) (event : SoloEvent) (events : List SoloEvent) (allowed : refusal_of w event ≡ None) where
  pub run-allowed : run_from w (event ∷ events) ≡ run_from (solo_step w event).world events
  run-allowed = rw allowed

  pub log-allowed : log_from w (event ∷ events) ≡ record { event = event; outcome = (solo_step w event).outcome } ∷ log_from (solo_step w event).world events
  log-allowed = rw allowed

  pub marks-allowed : marks_from w (event ∷ events) ≡ (solo_step w event).marks ++ marks_from (solo_step w event).world events
  marks-allowed = rw allowed
