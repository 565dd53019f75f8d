-- What the lines of a script name: its kind, its settings and its events. No world is involved. Own: docs/scripts.md.
use Rattle.std.specs.Prelude.{ℕ, Bool, true, false, List, [], ◌∷◌, ◌++◌, fold, map, Option, None, Some, Result, Ok, Err}
use Rattle.part_model.specs.declared.settings.TypeSettings.{TypeSettings}
use Rattle.world_events.specs.Solo.{SoloEvent}
use Rattle.world_events.specs.declared.event.WorldEvent.{WorldEvent}
use Rattle.world_events.specs.declared.settings.WorldSettings.{WorldSettings}
use Rattle.solo_run.specs.World.{TypeDepth}
use Rattle.script_text.specs.Reading.{Setting, Reentrant, Idle, Drain}
use Rattle.script_text.specs.SoloLines as solo
use Rattle.script_text.specs.ClusterLines as cluster

-- the settings of a cluster: how many parts a member has, the types with reentrancy on, and the two times of all types
pub record Setup : Type 0 where
  pub parts : ℕ
  pub depths : List TypeDepth
  pub idle : ℕ
  pub drain : ℕ

-- what the lines so far name; before the first one the kind of the script isn't known
pub data ScriptLog : Type 0 where
  Unread : ScriptLog
  SoloLog : (depths : List TypeDepth) → (events : List SoloEvent) → ScriptLog
  ClusterLog : (setup : Setup) → (events : List WorldEvent) → ScriptLog

-- a cluster with `parts` parts per member, of which nothing else is set
abbrev pub usual_setup : ℕ → Setup
usual_setup parts = record { parts = parts; depths = []; idle = 3600000; drain = 60000 }

abbrev pub type_settings : Setup → TypeDepth → TypeSettings
type_settings s d = record { kind = d.kind; idle_ms = s.idle; drain_ms = s.drain; depth = d.depth }

-- the settings of the world that the script opens
abbrev pub settings_of : Setup → WorldSettings
settings_of s = record { parts = s.parts; kinds = map (type_settings s) s.depths; idle_ms = s.idle; drain_ms = s.drain }

-- an event line came before, so a setting comes late
abbrev pub any_of : {A : Type 0} → List A → Bool
any_of [] = false
any_of (x ∷ xs) = true

-- ---- a line more

abbrev pub depth_set : List ℕ → ℕ → List TypeDepth → List TypeDepth
depth_set kind depth depths = depths ++ record { kind = kind; depth = depth } ∷ []

abbrev pub solo_set : List TypeDepth → List SoloEvent → Setting → ScriptLog
solo_set depths events (Reentrant column kind depth) = SoloLog (depth_set kind depth depths) events
solo_set depths events (Idle ms) = SoloLog depths events
solo_set depths events (Drain ms) = SoloLog depths events

abbrev pub solo_with : List TypeDepth → List SoloEvent → Result solo.SoloLine ℕ → ScriptLog
solo_with depths events (Err column) = SoloLog depths events
solo_with depths events (Ok solo.Blank) = SoloLog depths events
solo_with depths events (Ok (solo.Sets setting)) = solo_set depths events setting
solo_with depths events (Ok (solo.Does column event)) = SoloLog depths (events ++ event ∷ [])

abbrev pub setup_with : Setup → Setting → Setup
setup_with s (Reentrant column kind depth) = record s { depths = depth_set kind depth s.depths }
setup_with s (Idle ms) = record s { idle = ms }
setup_with s (Drain ms) = record s { drain = ms }

abbrev pub cluster_with : Setup → List WorldEvent → Result cluster.ClusterLine ℕ → ScriptLog
cluster_with s events (Err column) = ClusterLog s events
cluster_with s events (Ok cluster.Blank) = ClusterLog s events
cluster_with s events (Ok (cluster.Sets setting)) = ClusterLog (setup_with s setting) events
cluster_with s events (Ok (cluster.Does column event)) = ClusterLog s (events ++ event ∷ [])

-- a first line is the first of a solo script if it doesn't say `cluster`
abbrev pub first_with : List ℕ → Result (Option ℕ) ℕ → ScriptLog
first_with line (Err column) = Unread
first_with line (Ok None) = solo_with [] [] (solo.solo_line false line)
first_with line (Ok (Some parts)) = ClusterLog (usual_setup parts) []

-- what is named with one more line, from its reading alone
abbrev pub with_line : ScriptLog → List ℕ → ScriptLog
with_line Unread line = first_with line (cluster.parts_line line)
with_line (SoloLog depths events) line = solo_with depths events (solo.solo_line (any_of events) line)
with_line (ClusterLog s events) line = cluster_with s events (cluster.cluster_line (any_of events) line)

-- what these lines name
abbrev pub named_by : List (List ℕ) → ScriptLog
named_by lines = fold with_line Unread lines
