-- The JSON body of a transaction on an actor's state (Actors API reference of Dapr, version 1.0). Members not named
-- here are ignored.
use Rattle.std.specs.Prelude.{ℕ, nat_le, if◌then◌else◌, bytes_eq, List, [], ◌∷◌, codes, Option, Some, None, Result, Ok, Err}
use Rattle.std.specs.Option.{option_and_then}
use Rattle.json_text.specs.Values.{JsonValue, array, Items, no_items, item, is_null, is_object, text_in, member_at}
use Rattle.lists_and_limits.specs.Decimals.{number_of}
use Rattle.schedule_text.specs.Reading.{◌>>=◌}
use Rattle.state_rows.specs.declared.op.StateOp.{StateOp}
use Rattle.state_rows.specs.declared.op.StateOp.TheVariants.{Upsert, Delete}
use Rattle.state_rows.specs.declared.error.StateError.{StateError}
use Rattle.state_rows.specs.declared.error.StateError.TheVariants as sizes
use Rattle.state_rows.specs.Checks.{ops_fault}
use Rattle.api_bodies.specs.declared.transaction.AskedOp.{AskedOp}
use Rattle.api_bodies.specs.declared.transaction.AskedPut.{AskedPut}
use Rattle.api_bodies.specs.declared.error.BodyError.{BodyError}
use Rattle.api_bodies.specs.declared.error.BodyError.TheVariants.{Malformed, TooLarge, OutOfMemory}
use Rattle.api_bodies.specs.Reading.{read_all}
use Rattle.api_bodies.specs.Records.{formed, kept_text, body_reading}

abbrev pub listed : Items → List JsonValue
listed no_items = []
listed (item v vs) = v ∷ listed vs

-- the elements of an array; none of any other value
abbrev pub elements : JsonValue → List JsonValue
elements (array vs) = listed vs
elements _ = []

abbrev pub array_reading : JsonValue → Result (List JsonValue) BodyError
array_reading (array vs) = Ok (listed vs)
array_reading _ = Err Malformed

-- the text of a member
abbrev pub text_at : List ℕ → JsonValue → Option (List ℕ)
text_at key v = option_and_then text_in (member_at key v)

-- a number of seconds from 1 to 315,360,000, about ten years
abbrev pub seconds_of : Option ℕ → Result (Option ℕ) BodyError
seconds_of None = Err Malformed
seconds_of (Some n) = if nat_le 1 n then Ok (Some n) else Err Malformed

-- the optional text `ttlInSeconds`; absent or null, the entry stays
abbrev pub ttl_in : Option JsonValue → Result (Option ℕ) BodyError
ttl_in None = Ok None
ttl_in (Some v) = if is_null v then Ok None else seconds_of (option_and_then (number_of 315360000) (text_in v))

-- the optional object `metadata`
abbrev pub ttl_reading : Option JsonValue → Result (Option ℕ) BodyError
ttl_reading None = Ok None
ttl_reading (Some v) = if is_null v then Ok None else (if is_object v then ttl_in (member_at (codes "ttlInSeconds") v) else Err Malformed)

-- an upsert has a value, any JSON
abbrev pub asked_put : JsonValue → Result AskedPut BodyError
asked_put request =
    formed (member_at (codes "value") request) >>= λ value.
    ttl_reading (member_at (codes "metadata") request) >>= λ ttl.
    Ok (record { value = value; ttl = ttl })

abbrev pub asked_upsert : List ℕ → JsonValue → Result AskedOp BodyError
asked_upsert key request = asked_put request >>= λ put. Ok (record { key = key; put = Some put })

abbrev pub asked_by : List ℕ → List ℕ → JsonValue → Result AskedOp BodyError
asked_by word key request =
    if bytes_eq word (codes "upsert") then asked_upsert key request else (
    if bytes_eq word (codes "delete") then Ok (record { key = key; put = None }) else
    Err Malformed)

-- An object with `operation`, `upsert` or `delete`, and with `request`, an object with a text `key`.
abbrev pub asked_op : JsonValue → Result AskedOp BodyError
asked_op v =
    formed (text_at (codes "operation") v) >>= λ word.
    formed (member_at (codes "request") v) >>= λ request.
    formed (text_at (codes "key") request) >>= λ key.
    asked_by word key request

-- the operation; the value of an upsert is kept
abbrev pub kept_op : List ℕ → Option AskedPut → Result StateOp BodyError
kept_op key None = Ok (Delete key)
kept_op key (Some put) = kept_text put.value >>= λ text. Ok (Upsert key text put.ttl)

abbrev pub made_op : AskedOp → Result StateOp BodyError
made_op op = kept_op op.key op.put

-- the operation that is too large; 1000 if there are too many
abbrev pub size_error : StateError → BodyError
size_error (sizes.TooManyOps n) = TooLarge 1000
size_error (sizes.KeyTooLong op n) = TooLarge op
size_error (sizes.ValueTooLong op n) = TooLarge op
size_error sizes.OutOfMemory = OutOfMemory

abbrev pub sized : List StateOp → Option StateError → Result (List StateOp) BodyError
sized ops None = Ok ops
sized ops (Some fault) = Err (size_error fault)

-- the operations of a value: the form of all of them, then the numbers of all, then the sizes
abbrev pub ops_in : JsonValue → Result (List StateOp) BodyError
ops_in v =
    array_reading v >>= λ items.
    read_all asked_op items >>= λ asked.
    read_all made_op asked >>= λ ops.
    sized ops (ops_fault ops)

abbrev pub ops_reading : List ℕ → Result (List StateOp) BodyError
ops_reading body = body_reading body >>= λ v. ops_in v
