-- Types of actors and their settings, as an object of a configuration lists them.
use Rattle.std.specs.Prelude.{ℕ, if◌then◌else◌, List, [], ◌∷◌, Option, Some, None, Result, Ok, Err}
use Rattle.schedule_text.specs.Reading.{◌>>=◌}
use Rattle.actor_names.specs.declared.error.NameError.{NameError}
use Rattle.actor_names.specs.Names.{actor_type_fault}
use Rattle.json_text.specs.Values.{JsonValue, array, Items, no_items, item, is_object, text_in, member_at}
use Rattle.app_texts.specs.declared.config_key.ConfigKey.{ConfigKey}
use Rattle.app_texts.specs.declared.config_key.ConfigKey.TheVariants.{Entities, EntitiesConfig}
use Rattle.app_texts.specs.declared.treatment.Treatment.{Treatment}
use Rattle.app_texts.specs.Keys.{key_name}
use Rattle.app_texts.specs.Forms.{treatment_reading}
use Rattle.app_texts.specs.TypeGroups.{TypeGroup}

-- each item in order; the first that can't be read is the answer
abbrev pub each_reading : {A : Type 0} → (JsonValue → Result A ConfigKey) → Items → Result (List A) ConfigKey
each_reading read no_items = Ok []
each_reading read (item v vs) = read v >>= λ x. each_reading read vs >>= λ xs. Ok (x ∷ xs)

-- an array, read item by item; another value is refused with the key
abbrev pub list_reading : {A : Type 0} → ConfigKey → (JsonValue → Result A ConfigKey) → JsonValue → Result (List A) ConfigKey
list_reading key read (array vs) = each_reading read vs
list_reading key read v = Err key

-- the list under a key; none if there is no such key
abbrev pub listed : {A : Type 0} → ConfigKey → (JsonValue → Result A ConfigKey) → Option JsonValue → Result (List A) ConfigKey
listed key read None = Ok []
listed key read (Some v) = list_reading key read v

abbrev pub unfaulted : List ℕ → Option NameError → Result (List ℕ) ConfigKey
unfaulted text None = Ok text
unfaulted text (Some fault) = Err Entities

abbrev pub type_of : Option (List ℕ) → Result (List ℕ) ConfigKey
type_of None = Err Entities
type_of (Some text) = unfaulted text (actor_type_fault text)

-- a text that is an actor type
abbrev pub type_reading : JsonValue → Result (List ℕ) ConfigKey
type_reading v = type_of (text_in v)

-- the types that an object lists, before its settings
unfoldable pub group_reading : JsonValue → Result TypeGroup ConfigKey
group_reading v =
    listed Entities type_reading (member_at (key_name Entities) v) >>= λ types.
    treatment_reading v >>= λ treatment.
    Ok (record { types = types; treatment = treatment })

-- an entry of `entitiesConfig` is an object of types and settings
unfoldable pub entry_reading : JsonValue → Result TypeGroup ConfigKey
entry_reading v = if is_object v then group_reading v else Err EntitiesConfig

-- the entries of `entitiesConfig`
unfoldable pub entries_reading : JsonValue → Result (List TypeGroup) ConfigKey
entries_reading v = listed EntitiesConfig entry_reading (member_at (key_name EntitiesConfig) v)
