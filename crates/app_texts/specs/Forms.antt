-- The forms of the values of a configuration, and what an absent value means, after the actor runtime configuration of
-- Dapr's documentation. A value of another form is refused with its key.
use Rattle.std.specs.Prelude.{ℕ, ◌/◌, Bool, true, false, ◌&&◌, nat_le, if◌then◌else◌, List, Option, Some, None, Result, Ok, Err}
use Rattle.schedule_text.specs.declared.error.ScheduleError.{ScheduleError}
use Rattle.schedule_text.specs.GoDurations.{go_nanos}
use Rattle.schedule_text.specs.Reading.{◌>>=◌}
use Rattle.json_text.specs.Values.{JsonValue, is_object, truth_in, text_in, natural_in, member_at}
use Rattle.app_texts.specs.declared.config_key.ConfigKey.{ConfigKey}
use Rattle.app_texts.specs.declared.config_key.ConfigKey.TheVariants.{ActorIdleTimeout, DrainOngoingCallTimeout, DrainRebalancedActors, Reentrancy, Enabled, MaxStackDepth}
use Rattle.app_texts.specs.declared.treatment.Treatment.{Treatment}
use Rattle.app_texts.specs.Keys.{key_name}

-- a duration in milliseconds, cut down
abbrev pub cut_down : Result ℕ ScheduleError → Option ℕ
cut_down (Ok nanos) = Some (nanos / 1000000)
cut_down (Err fault) = None

abbrev pub milliseconds_of : Option (List ℕ) → Option ℕ
milliseconds_of None = None
milliseconds_of (Some text) = cut_down (go_nanos text)

-- the milliseconds of a text that is a duration as Go writes it
abbrev pub milliseconds_in : JsonValue → Option ℕ
milliseconds_in v = milliseconds_of (text_in v)

abbrev pub depth_of : Option ℕ → Option ℕ
depth_of None = None
depth_of (Some n) = if nat_le 1 n && nat_le n 1024 then Some n else None

-- a number from 1 to 1,024
abbrev pub depth_in : JsonValue → Option ℕ
depth_in v = depth_of (natural_in v)

abbrev pub formed : {A : Type 0} → ConfigKey → Option A → Result A ConfigKey
formed key None = Err key
formed key (Some x) = Ok x

abbrev pub found_reading : {A : Type 0} → ConfigKey → A → (JsonValue → Option A) → Option JsonValue → Result A ConfigKey
found_reading key default form None = Ok default
found_reading key default form (Some v) = formed key (form v)

-- the value under a key, which must have its form; the default if there is none
abbrev pub key_reading : {A : Type 0} → ConfigKey → A → (JsonValue → Option A) → JsonValue → Result A ConfigKey
key_reading key default form v = found_reading key default form (member_at (key_name key) v)

-- the depth that an object says; without `enabled` reentrancy is off, which is depth 0
abbrev pub depth_within : JsonValue → Result ℕ ConfigKey
depth_within v =
    if is_object v then
    (key_reading Enabled false truth_in v >>= λ enabled.
    key_reading MaxStackDepth 32 depth_in v >>= λ depth.
    Ok (if enabled then depth else 0))
    else Err Reentrancy

abbrev pub reentrancy_reading : Option JsonValue → Result ℕ ConfigKey
reentrancy_reading None = Ok 0
reentrancy_reading (Some v) = depth_within v

-- no time is left to turns that aren't drained
abbrev pub drain_of : Bool → ℕ → ℕ
drain_of drains milliseconds = if drains then milliseconds else 0

-- how the settings in an object say that actors are treated: an hour idle, a minute to drain, no reentrancy, unless
-- they say something else
unfoldable pub treatment_reading : JsonValue → Result Treatment ConfigKey
treatment_reading v =
    key_reading ActorIdleTimeout 3600000 milliseconds_in v >>= λ idle.
    key_reading DrainOngoingCallTimeout 60000 milliseconds_in v >>= λ drain.
    key_reading DrainRebalancedActors true truth_in v >>= λ drains.
    reentrancy_reading (member_at (key_name Reentrancy) v) >>= λ depth.
    Ok (record { idle_ms = idle; drain_ms = drain_of drains drain; depth = depth })
