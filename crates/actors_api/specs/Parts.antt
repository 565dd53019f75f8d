-- The names in a path and in the fields of a head. Own; the names of the fields are Dapr's and the peers' own.
use Rattle.std.specs.Prelude.{ℕ, ◌&&◌, nat_le, if◌then◌else◌, List, ◌++◌, length, codes, Option, Some, None, is_none, Result, Ok, Err}
use Rattle.std.specs.Option.{option_and_then}
use Rattle.std.specs.Str.{is_utf8}
use Rattle.percent_encoding.specs.Percent.{percent_decode}
use Rattle.lists_and_limits.specs.Decimals.{number_of}
use Rattle.lists_and_limits.specs.Limits.{last_number}
use Rattle.http_edge.specs.declared.message.HttpField.{HttpField}
use Rattle.actor_names.specs.declared.error.NameError.{NameError}
use Rattle.actor_names.specs.declared.actor_key.ActorKey.{ActorKey}
use Rattle.actor_names.specs.Names.{actor_type_fault, actor_id_fault, record_name_fault, chain_id_fault}
use Rattle.schedule_text.specs.Reading.{◌>>=◌}
use Rattle.call_names.specs.declared.name.CallName.{CallName}
use Rattle.call_names.specs.Readings.{call_reading}
use Rattle.actors_api.specs.declared.side.Side.{Side}
use Rattle.actors_api.specs.declared.side.Side.TheVariants.{Caller, Peer}
use Rattle.actors_api.specs.declared.refusal.ApiName.{ApiName}
use Rattle.actors_api.specs.declared.refusal.ApiName.TheVariants.{«Type», Id, Method, Key, Name, Chain, Least, Call}
use Rattle.actors_api.specs.declared.refusal.ApiRefusal.{ApiRefusal}
use Rattle.actors_api.specs.declared.refusal.ApiRefusal.TheVariants.{BadName}
use Rattle.actors_api.specs.Paths.{ApiRoute}
use Rattle.actors_api.specs.Responses.{first_value}

-- a text without a fault is the name
abbrev pub named : ApiName → (List ℕ → Option NameError) → List ℕ → Result (List ℕ) ApiRefusal
named what fault text = if is_none (fault text) then Ok text else Err (BadName what)

-- A part of a path spells bytes with percent escapes; a `%` without two hexadecimal digits behind it spells itself.
abbrev pub type_reading : List ℕ → Result (List ℕ) ApiRefusal
type_reading part = named «Type» actor_type_fault (percent_decode part)

abbrev pub id_reading : List ℕ → Result (List ℕ) ApiRefusal
id_reading part = named Id actor_id_fault (percent_decode part)

abbrev pub record_reading : List ℕ → Result (List ℕ) ApiRefusal
record_reading part = named Name record_name_fault (percent_decode part)

-- the actor of a path, in the space of the node
abbrev pub actor_reading : List ℕ → ApiRoute → Result ActorKey ApiRefusal
actor_reading space route =
    type_reading route.kind >>= λ kind.
    id_reading route.id >>= λ id.
    Ok (record { space = space; kind = kind; id = id })

-- a key of state: UTF-8 of 1 to 256 bytes
abbrev pub key_of : List ℕ → Result (List ℕ) ApiRefusal
key_of text = if is_utf8 text && (nat_le 1 (length text) && nat_le (length text) 256) then Ok text else Err (BadName Key)

abbrev pub key_reading : List ℕ → Result (List ℕ) ApiRefusal
key_reading part = key_of (percent_decode part)

-- the text of a method: at most 1,024 bytes as they are spelled, and then the query
abbrev pub method_reading : List ℕ → List ℕ → Result (List ℕ) ApiRefusal
method_reading rest query = if nat_le (length rest) 1024 then Ok (rest ++ query) else Err (BadName Method)

-- the field that brings the chain; the other side's isn't looked at
abbrev pub chain_field : Side → List ℕ
chain_field Caller = codes "Dapr-Reentrancy-Id"
chain_field Peer = codes "Actors-Chain"

-- a chain that was brought has to have its form
abbrev pub chain_of : Option (List ℕ) → Result (Option (List ℕ)) ApiRefusal
chain_of None = Ok None
chain_of (Some text) = named Chain chain_id_fault text >>= λ chain. Ok (Some chain)

abbrev pub chain_reading : Side → List HttpField → Result (Option (List ℕ)) ApiRefusal
chain_reading side fields = chain_of (first_value (chain_field side) fields)

-- a decimal number from 0 to 2^62
abbrev pub version_of : Option ℕ → Result (Option ℕ) ApiRefusal
version_of None = Err (BadName Least)
version_of (Some version) = Ok (Some version)

-- the least version that a peer knows of, which it has to tell
abbrev pub least_reading : Side → List HttpField → Result (Option ℕ) ApiRefusal
least_reading Caller fields = Ok None
least_reading Peer fields = version_of (option_and_then (number_of last_number) (first_value (codes "Actors-Least") fields))

abbrev pub call_name_of : Option CallName → Result (Option CallName) ApiRefusal
call_name_of None = Err (BadName Call)
call_name_of (Some call) = Ok (Some call)

-- the name of the call, which a peer has to tell
abbrev pub call_name_reading : Side → List HttpField → Result (Option CallName) ApiRefusal
call_name_reading Caller fields = Ok None
call_name_reading Peer fields = call_name_of (option_and_then call_reading (first_value (codes "Actors-Call") fields))
