-- The value that a text has (RFC 8259), as `serde_json` reads it: arrays and objects nest up to 127 deep, the last of
-- several members with the same key counts, and members are in byte order of key.
use Rattle.std.specs.Prelude.{◌≡◌, ℕ, List, Option, Some, None, option_map}
use Rattle.std.specs.Str.{IsUtf8}
use Rattle.serde_json.specs.Read.{read}
use Rattle.json_text.specs.Values.{JsonValue}
use Rattle.json_text.specs.Views.{json_of}

unfoldable pub reading : List ℕ → Option JsonValue
reading bytes = option_map json_of (read bytes)

-- the bytes are UTF-8 and have this value
abbrev pub Reads : List ℕ → JsonValue → Type 0
Reads bytes v = IsUtf8 bytes × (reading bytes ≡ Some v)

-- the bytes aren't UTF-8, or have no value
abbrev pub HasNoReading : List ℕ → Type 0
HasNoReading bytes = IsUtf8 bytes → reading bytes ≡ None
