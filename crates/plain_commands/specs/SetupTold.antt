-- The program's settings of a cluster script against what its lines name.
use Rattle.std.specs.Prelude.{◌≡◌, ℕ, List, [], Result, Ok, Err}
use Rattle.part_model.specs.declared.settings.TypeSettings.{TypeSettings}
use Rattle.solo_run.specs.World.{TypeDepth}
use Rattle.plain_commands.specs.Scripts.{Setup, ClusterLog}
use Rattle.plain_commands.specs.Replay.{LineStep, Goes, Stops}
use Rattle.plain_commands.specs.declared.line_end.LineEnd.{LineEnd}
use Rattle.plain_commands.specs.declared.line_end.LineEnd.TheVariants as ending

abbrev pub type_depth : TypeSettings → TypeDepth
type_depth t = record { kind = t.kind; depth = t.depth }

-- a type with these times
abbrev pub timed : ℕ → ℕ → TypeSettings → TypeSettings
timed idle drain t = record { kind = t.kind; idle_ms = idle; drain_ms = drain; depth = t.depth }

-- the setting's line goes on with these settings, or is refused at this column
abbrev pub GivesSetting : {X : Type 0} → Result X LineEnd → LineStep → Setup → Type 0
GivesSetting (Ok x) step new = step ≡ Goes (ClusterLog new []) []
GivesSetting (Err (ending.Refused column)) step new = step ≡ Stops column
GivesSetting (Err ending.OutOfMemory) step new = Unit {0}
