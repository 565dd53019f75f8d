-- What a replay prints is the outcomes of the events that the script's lines name.
use Rattle.std.proofs.Common.{◌≡◌, ◌⊎◌, inl, inr, ◌+◌, ◌≤◌, ◌<◌, ℕ, Bool, true, false, List, [], ◌∷◌, ◌++◌, length, take, Option, None, Some, Ok, Err, refl, sym, ap, subst, ◌∙◌, arith}
use Rattle.std.specs.Prelude.{fold, suc, nat_lt, codes, if◌then◌else◌, Result}
use Rattle.std.proofs.lemmas.Bool.{cond_both}
use Rattle.std.proofs.lemmas.List.{append_assoc, append-nil}
use Rattle.part_model.specs.Part.{ring_owner}
use Rattle.world_events.specs.Solo.{SoloEvent}
use Rattle.world_events.specs.declared.event.WorldEvent.{WorldEvent}
use Rattle.world_events.specs.declared.outcome.Outcome.{Outcome}
use Rattle.world_events.specs.declared.error.WorldError.{WorldError}
use Rattle.solo_run.specs.World.{SoloState, TypeDepth, has_depth, solo_step, refusal_of}
use Rattle.solo_run.specs.Runs.{Said, said_of, after_event, run_from, log_from, solo_run, solo_log}
use Rattle.cluster_model.specs.World.{ClusterState, opening_cluster, key_part, cluster_step, cluster_run, outcomes}
use Rattle.script_text.specs.Lines.{lines_of}
use Rattle.outcome_text.specs.Outcomes.{turn_text, outcome_text, bad_line_text}
use Rattle.script_text.specs.Reading.{Setting, Reentrant, Idle, Drain}
use Rattle.script_text.specs.SoloLines as solo
use Rattle.script_text.specs.ClusterLines as cluster
use Rattle.script_text.proofs.Late.{late_solo_sets_nothing, late_cluster_sets_nothing}
use Rattle.plain_commands.specs.Scripts.{Setup, ScriptLog, Unread, SoloLog, ClusterLog, any_of, settings_of, usual_setup, setup_with, solo_with, cluster_with, first_with, with_line, named_by}
use Rattle.plain_commands.specs.Replay.{LineStep, Goes, Stops, ReplayRun, solo_does, solo_setting, solo_event, cluster_after, cluster_does, cluster_setting, cluster_event, cluster_event_step, is_falling, first_does, line_step, after_line, run_lines, limit_run, replay_of, most_bytes, most_lines}
use Rattle.plain_commands.specs.Told.{said_text, result_text, results_text, log_text, TellsRun}

-- ---- one event more

said_text-append : (xs ys : List Said) → said_text (xs ++ ys) ≡ said_text xs ++ said_text ys
said_text-append [] ys = refl
said_text-append (x ∷ xs) ys = ap (λ (t : List ℕ). turn_text x.outcome ++ t) (said_text-append xs ys) ∙ sym (append_assoc (turn_text x.outcome) (said_text xs) (said_text ys))

results_text-append : (xs ys : List (Result Outcome WorldError)) → results_text (xs ++ ys) ≡ results_text xs ++ results_text ys
results_text-append [] ys = refl
results_text-append (x ∷ xs) ys = ap (λ (t : List ℕ). result_text x ++ t) (results_text-append xs ys) ∙ sym (append_assoc (result_text x) (results_text xs) (results_text ys))

log_from-append : (w : SoloState) (xs ys : List SoloEvent) → log_from w (xs ++ ys) ≡ log_from w xs ++ log_from (run_from w xs) ys
log_from-append w [] ys = refl
log_from-append w (x ∷ xs) ys =
    ap (λ (t : List Said). said_of w x (refusal_of w x) ++ t) (log_from-append (after_event w x (refusal_of w x)) xs ys)
    ∙ sym (append_assoc (said_of w x (refusal_of w x)) (log_from (after_event w x (refusal_of w x)) xs) (log_from (run_from (after_event w x (refusal_of w x)) xs) ys))

outcomes-append : (w : ClusterState) (xs ys : List WorldEvent) → outcomes ring_owner key_part w (xs ++ ys) ≡ outcomes ring_owner key_part w xs ++ outcomes ring_owner key_part (cluster_run ring_owner key_part w xs) ys
outcomes-append w [] ys = refl
outcomes-append w (x ∷ xs) ys = ap (λ (t : List (Result Outcome WorldError)). (cluster_step ring_owner key_part w x).outcome ∷ t) (outcomes-append (cluster_step ring_owner key_part w x).world xs ys)

-- an event that isn't refused adds its outcome's line
solo_more : (depths : List TypeDepth) (events : List SoloEvent) (event : SoloEvent) → refusal_of (solo_run depths events) event ≡ None
    → log_text (SoloLog depths (events ++ event ∷ [])) ≡ log_text (SoloLog depths events) ++ turn_text (solo_step (solo_run depths events) event).outcome
solo_more depths events event none =
    let w = solo_run depths events in
    let one : said_text (log_from w (event ∷ [])) ≡ turn_text (solo_step w event).outcome =
    ap (λ (r : Option WorldError). said_text (said_of w event r ++ [])) none ∙ append-nil (turn_text (solo_step w event).outcome) in
    ap said_text (log_from-append _ events (event ∷ [])) ∙ said_text-append (solo_log depths events) (log_from w (event ∷ [])) ∙ ap (λ (t : List ℕ). said_text (solo_log depths events) ++ t) one

cluster_more : (s : Setup) (events : List WorldEvent) (event : WorldEvent) (outcome : Outcome) → (cluster_step ring_owner key_part (cluster_after s events) event).outcome ≡ Ok outcome
    → log_text (ClusterLog s (events ++ event ∷ [])) ≡ log_text (ClusterLog s events) ++ outcome_text outcome
cluster_more s events event outcome ok =
    let w = cluster_after s events in
    let one : results_text (outcomes ring_owner key_part w (event ∷ [])) ≡ outcome_text outcome = ap (λ (r : Result Outcome WorldError). result_text r ++ []) ok ∙ append-nil (outcome_text outcome) in
    ap results_text (outcomes-append (opening_cluster (settings_of s)) events (event ∷ []))
    ∙ results_text-append (outcomes ring_owner key_part (opening_cluster (settings_of s)) events) (outcomes ring_owner key_part w (event ∷ []))
    ∙ ap (λ (t : List ℕ). log_text (ClusterLog s events) ++ t) one

-- ---- one line more

-- the step goes on to what the line names, and prints what is new in it
pub record Follows (log named : ScriptLog) (next : ScriptLog) (text : List ℕ) : Type 0 where
  pub names : next ≡ named
  pub prints : log_text next ≡ log_text log ++ text

goes_same : (log next : ScriptLog) (a b : List ℕ) → Goes log a ≡ Goes next b → (log ≡ next) × (a ≡ b)
goes_same log next a b e = (cc, cc)

stops_not : {A : Type 0} (column : ℕ) (next : ScriptLog) (b : List ℕ) → Stops column ≡ Goes next b → A
stops_not column next b e = absurd (cc)

-- a step that goes on to what is named, and prints this
follows : (log named next : ScriptLog) (a b : List ℕ) → Goes named a ≡ Goes next b → log_text named ≡ log_text log ++ a → Follows log named next b
follows log named next a b e told =
    let same = goes_same named next a b e in
    record { names = sym same.0; prints = ap log_text (sym same.0) ∙ told ∙ ap (λ (t : List ℕ). log_text log ++ t) same.1 }

quiet : (t : List ℕ) → t ≡ t ++ []
quiet t = sym (append-nil t)

solo_sets : (depths : List TypeDepth) (setting : Setting) (next : ScriptLog) (text : List ℕ) → solo_setting depths [] setting ≡ Goes next text
    → Follows (SoloLog depths []) (solo_with depths [] (Ok (solo.Sets setting))) next text
solo_sets depths (Reentrant column kind depth) next text e = go (has_depth kind depths) e
  where
    go : (b : Bool) → (if b then Stops column else Goes (solo_with depths [] (Ok (solo.Sets (Reentrant column kind depth)))) []) ≡ Goes next text
        → Follows (SoloLog depths []) (solo_with depths [] (Ok (solo.Sets (Reentrant column kind depth)))) next text
    go true e = stops_not column next text e
    go false e = follows (SoloLog depths []) _ next [] text e refl
solo_sets depths (Idle ms) next text e = follows (SoloLog depths []) _ next [] text e refl
solo_sets depths (Drain ms) next text e = follows (SoloLog depths []) _ next [] text e refl

solo_goes : (depths : List TypeDepth) (events : List SoloEvent) (line : List ℕ) (r : Result solo.SoloLine ℕ) → solo.solo_line (any_of events) line ≡ r
    → (next : ScriptLog) (text : List ℕ) → solo_does depths events r ≡ Goes next text → Follows (SoloLog depths events) (solo_with depths events r) next text
solo_goes depths events line (Err column) is next text e = stops_not column next text e
solo_goes depths events line (Ok solo.Blank) is next text e = follows (SoloLog depths events) _ next [] text e (quiet (log_text (SoloLog depths events)))
solo_goes depths [] line (Ok (solo.Sets setting)) is next text e = solo_sets depths setting next text e
solo_goes depths (x ∷ xs) line (Ok (solo.Sets setting)) is next text e = absurd (late_solo_sets_nothing line setting is)
solo_goes depths events line (Ok (solo.Does column event)) is next text e = go (refusal_of (solo_run depths events) event) refl e
  where
    go : (o : Option WorldError) → refusal_of (solo_run depths events) event ≡ o → solo_event depths events column event o ≡ Goes next text → Follows (SoloLog depths events) (SoloLog depths (events ++ event ∷ [])) next text
    go (Some error) h e = stops_not _ next text e
    go None h e = follows (SoloLog depths events) _ next _ text e (solo_more depths events event h)

cluster_sets : (s : Setup) (setting : Setting) (next : ScriptLog) (text : List ℕ) → cluster_setting s [] setting ≡ Goes next text
    → Follows (ClusterLog s []) (ClusterLog (setup_with s setting) []) next text
cluster_sets s (Reentrant column kind depth) next text e = go (has_depth kind s.depths) e
  where
    go : (b : Bool) → (if b then Stops column else Goes (ClusterLog (setup_with s (Reentrant column kind depth)) []) []) ≡ Goes next text
        → Follows (ClusterLog s []) (ClusterLog (setup_with s (Reentrant column kind depth)) []) next text
    go true e = stops_not column next text e
    go false e = follows (ClusterLog s []) _ next [] text e refl
cluster_sets s (Idle ms) next text e = follows (ClusterLog s []) _ next [] text e refl
cluster_sets s (Drain ms) next text e = follows (ClusterLog s []) _ next [] text e refl

cluster_happens : (s : Setup) (events : List WorldEvent) (column : ℕ) (event : WorldEvent) (next : ScriptLog) (text : List ℕ) → cluster_event_step s events column event ≡ Goes next text
    → Follows (ClusterLog s events) (ClusterLog s (events ++ event ∷ [])) next text
cluster_happens s events column event next text = falls (is_falling (cluster_after s events) event)
  where
    go : (r : Result Outcome WorldError) → (cluster_step ring_owner key_part (cluster_after s events) event).outcome ≡ r → cluster_event s events column event r ≡ Goes next text
        → Follows (ClusterLog s events) (ClusterLog s (events ++ event ∷ [])) next text
    go (Err error) h e = stops_not _ next text e
    go (Ok outcome) h e = follows (ClusterLog s events) _ next _ text e (cluster_more s events event outcome h)

    falls : (b : Bool) → (if b then Stops column else cluster_event s events column event (cluster_step ring_owner key_part (cluster_after s events) event).outcome) ≡ Goes next text
        → Follows (ClusterLog s events) (ClusterLog s (events ++ event ∷ [])) next text
    falls true e = stops_not column next text e
    falls false e = go (cluster_step ring_owner key_part (cluster_after s events) event).outcome refl e

cluster_goes : (s : Setup) (events : List WorldEvent) (line : List ℕ) (r : Result cluster.ClusterLine ℕ) → cluster.cluster_line (any_of events) line ≡ r
    → (next : ScriptLog) (text : List ℕ) → cluster_does s events r ≡ Goes next text → Follows (ClusterLog s events) (cluster_with s events r) next text
cluster_goes s events line (Err column) is next text e = stops_not column next text e
cluster_goes s events line (Ok cluster.Blank) is next text e = follows (ClusterLog s events) _ next [] text e (quiet (log_text (ClusterLog s events)))
cluster_goes s [] line (Ok (cluster.Sets setting)) is next text e = cluster_sets s setting next text e
cluster_goes s (x ∷ xs) line (Ok (cluster.Sets setting)) is next text e = absurd (late_cluster_sets_nothing line setting is)
cluster_goes s events line (Ok (cluster.Does column event)) is next text e = cluster_happens s events column event next text e

first_goes : (line : List ℕ) (r : Result (Option ℕ) ℕ) (next : ScriptLog) (text : List ℕ) → first_does line r ≡ Goes next text → Follows Unread (first_with line r) next text
first_goes line (Err column) next text e = stops_not column next text e
first_goes line (Ok (Some parts)) next text e = follows Unread _ next [] text e refl
first_goes line (Ok None) next text e =
    let solo = solo_goes [] [] line (solo.solo_line false line) refl next text e in
    record { names = solo.names; prints = solo.prints }

line_follows : (log : ScriptLog) (line : List ℕ) (next : ScriptLog) (text : List ℕ) → line_step log line ≡ Goes next text → Follows log (with_line log line) next text
line_follows Unread line next text e = first_goes line (cluster.parts_line line) next text e
line_follows (SoloLog depths events) line next text e = solo_goes depths events line (solo.solo_line (any_of events) line) refl next text e
line_follows (ClusterLog s events) line next text e = cluster_goes s events line (cluster.cluster_line (any_of events) line) refl next text e

-- ---- all lines

record TellsFrom (number : ℕ) (log : ScriptLog) (lines : List (List ℕ)) (run : ReplayRun) : Type 0 where
  pub count : ℕ
  pub within : count ≤ length lines
  pub named : run.log ≡ fold with_line log (take count lines)
  pub last : List ℕ
  pub text : log_text log ++ run.text ≡ log_text run.log ++ last
  pub done : run.status ≡ 0 → (last ≡ []) × (count ≡ length lines)
  pub refused : run.status ≡ 3 → (column : ℕ) × (last ≡ bad_line_text (number + count) column)
  pub unlimited : run.status ≡ 10 → ⊥

-- one line, and what the next ones print
line_more : (number : ℕ) (log : ScriptLog) (line : List ℕ) (lines : List (List ℕ)) (step : LineStep) → line_step log line ≡ step
    → ((next : ScriptLog) → TellsFrom (number + 1) next lines (run_lines (number + 1) next lines))
    → TellsFrom number log (line ∷ lines) (after_line number log step (λ next. run_lines (number + 1) next lines))
line_more number log line lines (Stops column) is others =
    record {
      count = 0;
      within = omega arith;
      named = refl;
      last = bad_line_text number column;
      text = refl;
      done = λ e. absurd (omega (arith, e));
      refused = λ _. (column, ap (λ (n : ℕ). bad_line_text n column) (omega arith));
      unlimited = λ e. omega (arith, e);
    }
line_more number log line lines (Goes next text) is others =
    let one = line_follows log line next text is in
    let rest = others next in
    let run = run_lines (number + 1) next lines in
    record {
      count = suc rest.count;
      within = (let w = rest.within in omega arith);
      named = rest.named ∙ ap (λ (l : ScriptLog). fold with_line l (take rest.count lines)) one.names;
      last = rest.last;
      text = sym (append_assoc (log_text log) text run.text) ∙ ap (λ (t : List ℕ). t ++ run.text) (sym one.prints) ∙ rest.text;
      done = λ e. (let d = rest.done e in (d.0, omega (arith, d.1)));
      refused = λ e. (let r = rest.refused e in (r.0, r.1 ∙ ap (λ (n : ℕ). bad_line_text n r.0) (omega arith)));
      unlimited = rest.unlimited;
    }

tells_from : (number : ℕ) (log : ScriptLog) (lines : List (List ℕ)) → TellsFrom number log lines (run_lines number log lines)
tells_from number log [] =
    record { count = 0; within = omega arith; named = refl; last = []; text = refl; done = λ _. (refl, refl); refused = λ e. absurd (omega (arith, e)); unlimited = λ e. omega (arith, e) }
tells_from number log (line ∷ lines) = line_more number log line lines (line_step log line) refl (λ next. tells_from (number + 1) next lines)

lines_told : (lines : List (List ℕ)) → TellsRun lines (run_lines 1 Unread lines)
lines_told lines =
    let told = tells_from 1 Unread lines in
    record {
      count = told.count;
      within = told.within;
      named = told.named;
      last = told.last;
      text = told.text;
      done = told.done;
      refused = λ e. (let r = told.refused e in (r.0, r.1 ∙ ap (λ (n : ℕ). bad_line_text n r.0) (omega arith)));
      limit = λ e. absurd (told.unlimited e);
    }

limit_told : (lines : List (List ℕ)) (text : List ℕ) → (text ≡ codes "limit bytes\n") ⊎ (text ≡ codes "limit lines\n") → TellsRun lines (limit_run text)
limit_told lines text which =
    record {
      count = 0;
      within = omega arith;
      named = refl;
      last = text;
      text = refl;
      done = λ e. absurd (omega (arith, e));
      refused = λ e. absurd (omega (arith, e));
      limit = λ _. which;
    }

-- for every script
pub replay_told : (bytes : List ℕ) → TellsRun (lines_of bytes) (replay_of bytes)
replay_told bytes =
    cond_both (nat_lt most_bytes (length bytes)) _ _ (TellsRun (lines_of bytes)) (λ _. limit_told (lines_of bytes) _ (inl refl))
    (λ _. cond_both (nat_lt most_lines (length (lines_of bytes))) _ _ (TellsRun (lines_of bytes)) (λ _. limit_told (lines_of bytes) _ (inr refl)) (λ _. lines_told (lines_of bytes)))
