-- What the lines that the program has read say.
use Rattle.std.specs.Prelude.{◌≡◌, ◌+◌, ℕ, List, [], length, true, Option, None, Some, Result, Ok, Err}
use Rattle.actor_names.specs.Names.{actor_type_fault}
use Rattle.world_events.specs.Solo.{event_told}
use Rattle.script_text.specs.Reading.{Setting, Reentrant, Idle, Drain}
use Rattle.script_text.specs.SoloLines as solo
use Rattle.script_text.specs.ClusterWords.{pieces_of}
use Rattle.script_text.specs.ClusterLines.{IsWithinLimits, reading_makes_names}
use Rattle.script_text.specs.ClusterLines as cluster
use Rattle.script_text.specs.declared.setting.Setting.{Setting as SettingRead}
use Rattle.script_text.specs.declared.setting.Setting.TheVariants as setting
use Rattle.script_text.specs.declared.solo.SoloLine.{SoloLine as SoloRead}
use Rattle.script_text.specs.declared.solo.SoloLine.TheVariants as soloread
use Rattle.script_text.specs.declared.cluster.ClusterLine.{ClusterLine as ClusterRead}
use Rattle.script_text.specs.declared.cluster.ClusterLine.TheVariants as clusterread
use Rattle.script_text.specs.declared.error.LineError.{LineError}
use Rattle.script_text.specs.declared.error.LineError.TheVariants.{BadColumn, OutOfMemory}

abbrev pub setting_told : SettingRead → Setting
setting_told (setting.Reentrant column kind depth) = Reentrant column kind.now depth.value
setting_told (setting.Idle ms) = Idle ms
setting_told (setting.Drain ms) = Drain ms

abbrev pub solo_told : SoloRead → solo.SoloLine
solo_told soloread.Blank = solo.Blank
solo_told (soloread.Sets setting) = solo.Sets (setting_told setting)
solo_told (soloread.Does column event) = solo.Does column (event_told event)

abbrev pub cluster_told : ClusterRead → cluster.ClusterLine
cluster_told clusterread.Blank = cluster.Blank
cluster_told (clusterread.Sets setting) = cluster.Sets (setting_told setting)
cluster_told (clusterread.Does column event) = cluster.Does column event

-- a line is what its reading gives, or its column is where the reading is refused; it runs out of memory only if the
-- line isn't refused and makes names
abbrev pub ReadsLine : Result ClusterRead LineError → Result cluster.ClusterLine ℕ → Type 0
ReadsLine (Ok line) reading = reading ≡ Ok (cluster_told line)
ReadsLine (Err (BadColumn column)) reading = reading ≡ Err column
ReadsLine (Err OutOfMemory) reading = reading_makes_names reading ≡ true

-- what a line's words give, or the column at which they are refused; out of memory comes only if they aren't refused
abbrev pub Reads : {X : Type 0} → Result X LineError → Result X ℕ → Type 0
Reads {X} (Ok x) reading = reading ≡ Ok x
Reads {X} (Err (BadColumn column)) reading = reading ≡ Err column
Reads {X} (Err OutOfMemory) reading = (x : X) × (reading ≡ Ok x)

-- the type of a setting is an actor type
abbrev pub SettingIsSound : SettingRead → Type 0
SettingIsSound (setting.Reentrant column kind depth) = actor_type_fault kind.now ≡ None
SettingIsSound (setting.Idle ms) = Unit {0}
SettingIsSound (setting.Drain ms) = Unit {0}

-- an event is within the limits of a world, and a setting names a type
abbrev pub LineIsWithinLimits : ClusterRead → Type 0
LineIsWithinLimits clusterread.Blank = Unit {0}
LineIsWithinLimits (clusterread.Sets setting) = SettingIsSound setting
LineIsWithinLimits (clusterread.Does column event) = IsWithinLimits event

-- the remaining pieces of a text
abbrev pub pieces_left_of : Option (List ℕ) → List (List ℕ)
pieces_left_of None = []
pieces_left_of (Some text) = pieces_of text

-- how much of a text remains
abbrev pub bytes_left_of : Option (List ℕ) → ℕ
bytes_left_of None = 0
bytes_left_of (Some text) = length text + 1
