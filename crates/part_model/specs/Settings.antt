-- Settings of actor types. Idle and drain times, depths and their defaults follow the actor runtime
-- configuration of Dapr's documentation; reentrancy is off by default.
use Rattle.std.specs.Prelude.{◌≤◌, ℕ, if◌then◌else◌, List, [], ◌∷◌, All, bytes_eq}
use Rattle.turn_core.specs.Cell.{greatest_depth}
use Rattle.part_model.specs.declared.settings.TypeSettings.{TypeSettings}

-- the settings of a type that isn't listed
abbrev pub default_settings : List ℕ → TypeSettings
default_settings kind = record { kind = kind; idle_ms = 3600000; drain_ms = 60000; depth = 0 }

-- if a type has two entries, the last counts
abbrev pub settings_or : TypeSettings → List TypeSettings → List ℕ → TypeSettings
settings_or found [] kind = found
settings_or found (t ∷ ts) kind = settings_or (if bytes_eq t.kind kind then t else found) ts kind

abbrev pub settings_of : List TypeSettings → List ℕ → TypeSettings
settings_of ts kind = settings_or (default_settings kind) ts kind

-- a depth is at most 1,024
abbrev pub AreShallow : List TypeSettings → Type 0
AreShallow ts = All (λ t. t.depth ≤ greatest_depth) ts
