-- What a replay prints, as the outcomes of the events that the script's lines name. Own: docs/scripts.md.
use Rattle.std.specs.Prelude.{◌≡◌, ◌⊎◌, ◌≤◌, ◌+◌, ℕ, List, [], ◌∷◌, ◌++◌, length, take, codes, Result, Ok, Err}
use Rattle.part_model.specs.Part.{ring_owner}
use Rattle.world_events.specs.declared.outcome.Outcome.{Outcome}
use Rattle.world_events.specs.declared.error.WorldError.{WorldError}
use Rattle.solo_run.specs.Runs.{Said, solo_log}
use Rattle.cluster_model.specs.World.{opening_cluster, key_part, outcomes}
use Rattle.script_text.specs.Lines.{lines_of}
use Rattle.outcome_text.specs.Outcomes.{turn_text, outcome_text, bad_line_text}
use Rattle.plain_commands.specs.Scripts.{ScriptLog, Unread, SoloLog, ClusterLog, settings_of, named_by}
use Rattle.plain_commands.specs.Replay.{ReplayRun}

abbrev pub said_text : List Said → List ℕ
said_text [] = []
said_text (s ∷ log) = turn_text s.outcome ++ said_text log

-- a refused event prints nothing of its own
abbrev pub result_text : Result Outcome WorldError → List ℕ
result_text (Ok outcome) = outcome_text outcome
result_text (Err error) = []

abbrev pub results_text : List (Result Outcome WorldError) → List ℕ
results_text [] = []
results_text (r ∷ rs) = result_text r ++ results_text rs

-- the outcomes of the events of a script, line by line
abbrev pub log_text : ScriptLog → List ℕ
log_text Unread = []
log_text (SoloLog depths events) = said_text (solo_log depths events)
log_text (ClusterLog s events) = results_text (outcomes ring_owner key_part (opening_cluster (settings_of s)) events)

-- The first `count` lines ran. What was printed is the outcomes of the events that they name, and nothing more if all
-- lines ran; else the line that reports the refusal of the next line, or the limit that the script exceeds.
pub record TellsRun (lines : List (List ℕ)) (run : ReplayRun) : Type 0 where
  pub count : ℕ
  pub within : count ≤ length lines
  pub named : run.log ≡ named_by (take count lines)
  pub last : List ℕ
  pub text : run.text ≡ log_text run.log ++ last
  pub done : run.status ≡ 0 → (last ≡ []) × (count ≡ length lines)
  pub refused : run.status ≡ 3 → (column : ℕ) × (last ≡ bad_line_text (count + 1) column)
  pub limit : run.status ≡ 10 → (last ≡ codes "limit bytes\n") ⊎ (last ≡ codes "limit lines\n")
