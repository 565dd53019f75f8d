-- What a line does to the program's script is what it does to the log of the lines so far.
use Rattle.std.proofs.Common.{◌≡◌, ℕ, Bool, true, false, List, [], ◌∷◌, ◌++◌, Option, None, Some, Ok, Err, inl, inr, refl, sym, ap, subst, ◌∙◌}
use Rattle.std.specs.Prelude.{Result}
use Rattle.part_model.specs.Part.{ring_owner}
use Rattle.world_events.specs.Solo.{SoloEvent}
use Rattle.world_events.specs.declared.event.WorldEvent.{WorldEvent}
use Rattle.world_events.specs.declared.outcome.Outcome.{Outcome}
use Rattle.world_events.specs.declared.outcome.TurnOutcome.{TurnOutcome}
use Rattle.world_events.specs.declared.error.WorldError.{WorldError}
use Rattle.world_events.specs.declared.error.WorldError.TheVariants.{Spent, Dishonest, WrongNumber, OutOfMemory}
use Rattle.solo_run.specs.World.{SoloState, TypeDepth, solo_step, refusal_of}
use Rattle.solo_run.specs.Runs.{after_event, run_from, solo_run}
use Rattle.solo_run.specs.Steps.{GivesOutcome}
use Rattle.cluster_model.specs.World.{opening_cluster, key_part, cluster_step}
use Rattle.cluster_model.proofs.Lines.{cluster_run-append}
use Rattle.world_run.specs.Worlds.{WorldView, view_of, GivesStep}
use Rattle.outcome_text.specs.Outcomes.{turn_text, outcome_text}
use Rattle.script_text.specs.Reading.{Setting}
use Rattle.script_text.specs.SoloLines as solo
use Rattle.script_text.proofs.Late.{late_solo_sets_nothing}
use Rattle.plain_commands.specs.Scripts.{Setup, SoloLog, ClusterLog, any_of, settings_of}
use Rattle.plain_commands.specs.EndsTold.{EndsAt}
use Rattle.plain_commands.specs.Replay.{LineStep, Stops, refused_at, solo_does, solo_setting, solo_event, cluster_after, cluster_event, cluster_event_step, is_falling}
use Rattle.plain_commands.specs.ReplayTold.{GoesTo, GivesLine}
use Rattle.plain_commands.specs.declared.line_end.LineEnd.{LineEnd}
use Rattle.plain_commands.specs.declared.line_end.LineEnd.TheVariants as ending
use Rattle.plain_commands.specs.declared.script.Script.{Script}
use Rattle.plain_commands.specs.declared.script.Script.TheVariants as script

any_more : {A : Type 0} (xs : List A) (x : A) → any_of (xs ++ x ∷ []) ≡ true
any_more [] x = refl
any_more (y ∷ ys) x = refl

-- ---- solo scripts

run_from-append : (w : SoloState) (xs ys : List SoloEvent) → run_from w (xs ++ ys) ≡ run_from (run_from w xs) ys
run_from-append w [] ys = refl
run_from-append w (x ∷ xs) ys = run_from-append (after_event w x (refusal_of w x)) xs ys

-- an event that isn't refused
solo_run-more : (depths : List TypeDepth) (events : List SoloEvent) (event : SoloEvent) → refusal_of (solo_run depths events) event ≡ None
    → solo_run depths (events ++ event ∷ []) ≡ (solo_step (solo_run depths events) event).world
solo_run-more depths events event none = run_from-append _ events (event ∷ []) ∙ ap (λ (r : Option WorldError). after_event (solo_run depths events) event r) none

pub solo_happened : (depths : List TypeDepth) (events : List SoloEvent) (column : ℕ) (event : SoloEvent) (old new : SoloState) (outcome : TurnOutcome) (before after : List ℕ)
    → old ≡ solo_run depths events → refusal_of old event ≡ None → GivesOutcome outcome old new event → after ≡ before ++ turn_text outcome
    → GoesTo (solo_event depths events column event (refusal_of (solo_run depths events) event)) (script.Solo (record { started = true; world = new })) before after
solo_happened depths events column event old new outcome before after is none gives added =
    let now : refusal_of (solo_run depths events) event ≡ None = ap (λ (w : SoloState). refusal_of w event) (sym is) ∙ none in
    let world = gives.world ∙ ap (λ (w : SoloState). (solo_step w event).world) is ∙ sym (solo_run-more depths events event now) in
    let text = added ∙ ap (λ (o : TurnOutcome). before ++ turn_text o) (gives.gives ∙ ap (λ (w : SoloState). (solo_step w event).outcome) is) in
    subst (λ (r : Option WorldError). GoesTo (solo_event depths events column event r) (script.Solo (record { started = true; world = new })) before after) (sym now)
    ((sym (any_more events event), world), text)

not_late : (line : List ℕ) (setting : Setting) (late : Bool) → solo.solo_line late line ≡ Ok (solo.Sets setting) → late ≡ false
not_late line setting true e = absurd (late_solo_sets_nothing line setting e)
not_late line setting false e = refl

pub solo_was_set : {X : Type 0} (depths : List TypeDepth) (events : List SoloEvent) (line : List ℕ) (setting : Setting) (started : Bool) (result : Result X LineEnd) (new : Script) (text : List ℕ)
    → started ≡ any_of events → solo.solo_line started line ≡ Ok (solo.Sets setting) → (any_of events ≡ false → GivesLine result (solo_setting depths events setting) new text text)
    → GivesLine result (solo_does depths events (solo.solo_line (any_of events) line)) new text text
solo_was_set depths events line setting started result new text is reads gives =
    let now : solo.solo_line (any_of events) line ≡ Ok (solo.Sets setting) = ap (λ (b : Bool). solo.solo_line b line) (sym is) ∙ reads in
    subst (λ (r : Result solo.SoloLine ℕ). GivesLine result (solo_does depths events r) new text text) (sym now) (gives (not_late line setting (any_of events) now))

-- ---- cluster scripts

-- an event that sets no moment before the present one happens
happens : (s : Setup) (events : List WorldEvent) (column : ℕ) (event : WorldEvent) (result : Result Outcome WorldError) → is_falling (cluster_after s events) event ≡ false
    → (cluster_step ring_owner key_part (cluster_after s events) event).outcome ≡ result → cluster_event_step s events column event ≡ cluster_event s events column event result
happens s events column event result rising is = rw (rising, is) refl

-- an event that sets no moment before the present one, and isn't refused
cluster_done : (s : Setup) (events : List WorldEvent) (column : ℕ) (event : WorldEvent) (new : WorldView) (outcome : Outcome) (before after : List ℕ)
    → is_falling (cluster_after s events) event ≡ false → (cluster_step ring_owner key_part (cluster_after s events) event).outcome ≡ Ok outcome
    → new ≡ view_of (cluster_step ring_owner key_part (cluster_after s events) event).world → after ≡ before ++ outcome_text outcome
    → GoesTo (cluster_event_step s events column event) (script.Cluster new) before after
cluster_done s events column event new outcome before after rising is world added =
    let one = sym (cluster_run-append ring_owner key_part (opening_cluster (settings_of s)) events (event ∷ [])) in
    let goes : GoesTo (cluster_event s events column event (Ok outcome)) (script.Cluster new) before after = ((any_more events event, world ∙ ap view_of one), added) in
    subst (λ (step : LineStep). GoesTo step (script.Cluster new) before after) (sym (happens s events column event (Ok outcome) rising is)) goes

ok_same : (a b : Outcome) → ◌≡◌ {A = Result Outcome WorldError} (Ok a) (Ok b) → a ≡ b
ok_same a b e = cc

pub cluster_happened : (s : Setup) (events : List WorldEvent) (column : ℕ) (event : WorldEvent) (old new : WorldView) (result : Result Outcome WorldError) (outcome : Outcome) (before after : List ℕ)
    → is_falling (cluster_after s events) event ≡ false → GivesStep result old (cluster_step ring_owner key_part (cluster_after s events) event) new → result ≡ Ok outcome → after ≡ before ++ outcome_text outcome
    → GoesTo (cluster_event_step s events column event) (script.Cluster new) before after
cluster_happened s events column event old new result outcome before after rising gives is added = elim gives [
  | inl h ↦ absurd (let bad : ◌≡◌ {A = Result Outcome WorldError} (Ok outcome) (Err OutOfMemory) = sym is ∙ h.0 in cc)
  | inr h ↦ cluster_done s events column event new outcome before after rising (sym h.0 ∙ is) h.1 added
]
