-- The replay of a script: what it writes and how it ends. Own: docs/scripts.md.
use Rattle.std.specs.Prelude.{ℕ, ◌+◌, Bool, false, nat_lt, if◌then◌else◌, List, [], ◌∷◌, ◌++◌, length, codes, Option, None, Some, Result, Ok, Err}
use Rattle.part_model.specs.Part.{ring_owner}
use Rattle.world_events.specs.Solo.{SoloEvent}
use Rattle.world_events.specs.declared.event.WorldEvent.{WorldEvent}
use Rattle.world_events.specs.declared.event.WorldEvent.TheVariants as lines
use Rattle.world_events.specs.declared.outcome.Outcome.{Outcome}
use Rattle.world_events.specs.declared.error.WorldError.{WorldError}
use Rattle.world_events.specs.declared.error.WorldError.TheVariants.{Spent, Dishonest, WrongNumber, OutOfMemory}
use Rattle.solo_run.specs.World.{TypeDepth, SoloState, has_depth, solo_step, refusal_of}
use Rattle.solo_run.specs.Runs.{solo_run}
use Rattle.cluster_model.specs.World.{ClusterState, opening_cluster, key_part, cluster_step, cluster_run}
use Rattle.script_text.specs.Lines.{lines_of}
use Rattle.outcome_text.specs.Outcomes.{turn_text, outcome_text, bad_line_text}
use Rattle.script_text.specs.Reading.{Setting, Reentrant, Idle, Drain}
use Rattle.script_text.specs.SoloLines as solo
use Rattle.script_text.specs.ClusterLines as cluster
use Rattle.plain_commands.specs.Scripts.{Setup, ScriptLog, Unread, SoloLog, ClusterLog, any_of, settings_of, usual_setup, solo_set, setup_with}

abbrev pub most_bytes : ℕ
most_bytes = 67108864

abbrev pub most_lines : ℕ
most_lines = 1000000

-- what a line does: the replay goes on, with what is named so far and the text that it writes, or the line is refused
pub data LineStep : Type 0 where
  Goes : (log : ScriptLog) → (text : List ℕ) → LineStep
  Stops : (column : ℕ) → LineStep

-- Where a refused event is refused: a wrong call number at the number, any other event at the beginning of the line.
abbrev pub refused_at : ℕ → WorldError → ℕ
refused_at column (WrongNumber next) = column
refused_at column (Spent count) = 1
refused_at column (Dishonest member) = 1
refused_at column OutOfMemory = 1

-- ---- solo scripts

abbrev pub solo_event : List TypeDepth → List SoloEvent → ℕ → SoloEvent → Option WorldError → LineStep
solo_event depths events column event None = Goes (SoloLog depths (events ++ event ∷ [])) (turn_text (solo_step (solo_run depths events) event).outcome)
solo_event depths events column event (Some error) = Stops (refused_at column error)

-- a second `reentrant` for one type is refused at the type
abbrev pub solo_setting : List TypeDepth → List SoloEvent → Setting → LineStep
solo_setting depths events (Reentrant column kind depth) = if has_depth kind depths then Stops column else Goes (solo_set depths events (Reentrant column kind depth)) []
solo_setting depths events (Idle ms) = Goes (SoloLog depths events) []
solo_setting depths events (Drain ms) = Goes (SoloLog depths events) []

abbrev pub solo_does : List TypeDepth → List SoloEvent → Result solo.SoloLine ℕ → LineStep
solo_does depths events (Err column) = Stops column
solo_does depths events (Ok solo.Blank) = Goes (SoloLog depths events) []
solo_does depths events (Ok (solo.Sets setting)) = solo_setting depths events setting
solo_does depths events (Ok (solo.Does column event)) = solo_event depths events column event (refusal_of (solo_run depths events) event)

-- ---- cluster scripts

-- the cluster after these events
abbrev pub cluster_after : Setup → List WorldEvent → ClusterState
cluster_after s events = cluster_run ring_owner key_part (opening_cluster (settings_of s)) events

-- the moment of an `at` is before the present one
abbrev pub is_falling : ClusterState → WorldEvent → Bool
is_falling w (lines.At moment) = nat_lt moment w.now
is_falling w event = false

abbrev pub cluster_event : Setup → List WorldEvent → ℕ → WorldEvent → Result Outcome WorldError → LineStep
cluster_event s events column event (Ok outcome) = Goes (ClusterLog s (events ++ event ∷ [])) (outcome_text outcome)
cluster_event s events column event (Err error) = Stops (refused_at column error)

abbrev pub cluster_setting : Setup → List WorldEvent → Setting → LineStep
cluster_setting s events (Reentrant column kind depth) = if has_depth kind s.depths then Stops column else Goes (ClusterLog (setup_with s (Reentrant column kind depth)) events) []
cluster_setting s events (Idle ms) = Goes (ClusterLog (setup_with s (Idle ms)) events) []
cluster_setting s events (Drain ms) = Goes (ClusterLog (setup_with s (Drain ms)) events) []

-- an `at` before the present moment is refused at its moment
abbrev pub cluster_event_step : Setup → List WorldEvent → ℕ → WorldEvent → LineStep
cluster_event_step s events column event =
    if is_falling (cluster_after s events) event then Stops column
    else cluster_event s events column event (cluster_step ring_owner key_part (cluster_after s events) event).outcome

abbrev pub cluster_does : Setup → List WorldEvent → Result cluster.ClusterLine ℕ → LineStep
cluster_does s events (Err column) = Stops column
cluster_does s events (Ok cluster.Blank) = Goes (ClusterLog s events) []
cluster_does s events (Ok (cluster.Sets setting)) = cluster_setting s events setting
cluster_does s events (Ok (cluster.Does column event)) = cluster_event_step s events column event

-- ---- a line, and all lines

abbrev pub first_does : List ℕ → Result (Option ℕ) ℕ → LineStep
first_does line (Err column) = Stops column
first_does line (Ok None) = solo_does [] [] (solo.solo_line false line)
first_does line (Ok (Some parts)) = Goes (ClusterLog (usual_setup parts) []) []

abbrev pub line_step : ScriptLog → List ℕ → LineStep
line_step Unread line = first_does line (cluster.parts_line line)
line_step (SoloLog depths events) line = solo_does depths events (solo.solo_line (any_of events) line)
line_step (ClusterLog s events) line = cluster_does s events (cluster.cluster_line (any_of events) line)

-- what a replay writes, its status, and what was named by the lines that weren't refused
pub record ReplayRun : Type 0 where
  pub text : List ℕ
  pub status : ℕ
  pub log : ScriptLog

abbrev pub after_line : ℕ → ScriptLog → LineStep → (ScriptLog → ReplayRun) → ReplayRun
after_line number log (Stops column) rest = record { text = bad_line_text number column; status = 3; log = log }
after_line number log (Goes next text) rest = record { text = text ++ (rest next).text; status = (rest next).status; log = (rest next).log }

-- The lines in order, numbered from this number on, up to the first that is refused.
abbrev pub run_lines : ℕ → ScriptLog → List (List ℕ) → ReplayRun
run_lines number log [] = record { text = []; status = 0; log = log }
run_lines number log (line ∷ lines) = after_line number log (line_step log line) (λ next. run_lines (number + 1) next lines)

abbrev pub limit_run : List ℕ → ReplayRun
limit_run text = record { text = text; status = 10; log = Unread }

-- The replay of a script's bytes, which are counted first, then its lines.
abbrev pub replay_of : List ℕ → ReplayRun
replay_of bytes =
    if nat_lt most_bytes (length bytes) then limit_run (codes "limit bytes\n") else (
    if nat_lt most_lines (length (lines_of bytes)) then limit_run (codes "limit lines\n") else
    run_lines 1 Unread (lines_of bytes))
