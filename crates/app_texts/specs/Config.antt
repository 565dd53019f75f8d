-- What an application's configuration says, after the actor runtime configuration of Dapr's documentation.
use Rattle.std.specs.Prelude.{◌≡◌, ℕ, Bool, false, ◌++◌, nat_le, if◌then◌else◌, List, [], ◌∷◌, length, map, bytes_eq, Result, Ok, Err}
use Rattle.std.specs.List.{list_any}
use Rattle.part_model.specs.declared.settings.TypeSettings.{TypeSettings}
use Rattle.schedule_text.specs.Reading.{◌>>=◌}
use Rattle.json_text.specs.Reading.{Reads}
use Rattle.json_text.specs.Values.{JsonValue, is_object}
use Rattle.app_texts.specs.declared.config_key.ConfigKey.{ConfigKey}
use Rattle.app_texts.specs.declared.config_error.ConfigError.{ConfigError}
use Rattle.app_texts.specs.declared.config_error.ConfigError.TheVariants.{NotJson, BadKey, TooManyTypes, OutOfMemory}
use Rattle.app_texts.specs.declared.config.AppConfig.{AppConfig}
use Rattle.app_texts.specs.declared.treatment.Treatment.{Treatment}
use Rattle.app_texts.specs.Keys.{key_name}
use Rattle.app_texts.specs.TypeGroups.{TypeGroup}
use Rattle.app_texts.specs.Groups.{group_reading, entries_reading}

-- a type that is among others
abbrev pub is_among : List (List ℕ) → List ℕ → Bool
is_among types type = list_any (λ t. bytes_eq t type) types

-- the types that come for the first time, behind those seen before
abbrev pub first_ones : List (List ℕ) → List (List ℕ) → List (List ℕ)
first_ones seen [] = []
first_ones seen (t ∷ ts) = if is_among seen t then first_ones seen ts else t ∷ first_ones (seen ++ t ∷ []) ts

-- how a type is treated: as the last group says that names it, else as `found`
abbrev pub treatment_or : Treatment → List TypeGroup → List ℕ → Treatment
treatment_or found [] type = found
treatment_or found (g ∷ gs) type = treatment_or (if is_among g.types type then g.treatment else found) gs type

abbrev pub settings_as : Treatment → List ℕ → TypeSettings
settings_as t type = record { kind = type; idle_ms = t.idle_ms; drain_ms = t.drain_ms; depth = t.depth }

-- the settings of these types
abbrev pub settings_by : Treatment → List TypeGroup → List (List ℕ) → List TypeSettings
settings_by outer groups types = map (λ type. settings_as (treatment_or outer groups type) type) types

-- at most 32 types may be hosted
abbrev pub hosting : Treatment → List TypeGroup → List (List ℕ) → Result AppConfig ConfigError
hosting outer groups types = if nat_le (length types) 32 then Ok (record { kinds = settings_by outer groups types }) else Err (TooManyTypes (length types))

abbrev pub named : {A : Type 0} → Result A ConfigKey → Result A ConfigError
named (Ok x) = Ok x
named (Err key) = Err (BadKey (key_name key))

-- what stands outside of `entitiesConfig`, and the entries of it
abbrev pub groups_reading : JsonValue → Result (TypeGroup × List TypeGroup) ConfigKey
groups_reading v =
    group_reading v >>= λ outer.
    entries_reading v >>= λ groups.
    Ok (outer, groups)

-- The configuration that a value says, or why it can't be taken. Types are hosted in the order of `entities`, each
-- once; a type that only an entry names is not hosted.
unfoldable pub config_reading : JsonValue → Result AppConfig ConfigError
config_reading v =
    if is_object v then
    (named (groups_reading v) >>= λ read. hosting read.0.treatment read.1 (first_ones [] read.0.types))
    else Err NotJson

-- the body has a value, and this is what it says
abbrev pub Says : List ℕ → Result AppConfig ConfigError → Type 0
Says body answer = (v : JsonValue) × Reads body v × (config_reading v ≡ answer)

-- What a body is answered: what it says, unless memory ran out. A body without a value has no object.
abbrev pub ConfigOf : List ℕ → Result AppConfig ConfigError → Type 0
ConfigOf body (Ok config) = Says body (Ok config)
ConfigOf body (Err NotJson) = (v : JsonValue) → Reads body v → is_object v ≡ false
ConfigOf body (Err OutOfMemory) = Unit {0}
ConfigOf body (Err fault) = Says body (Err fault)
