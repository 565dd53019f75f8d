-- Payloads of the first form, in which no space stood. They are read in the space `default`. Own.
use Rattle.std.specs.Prelude.{◌≡◌, ℕ, ◌+◌, ◌==◌, nat_lt, nat_le, Bool, true, false, not, ◌&&◌, ◌||◌, if◌then◌else◌, List, [], ◌∷◌, ◌++◌, length, take, drop, Option, None, Some, is_some, option_map, option_and_then}
use Rattle.std.specs.Int.{w64, to_be_bytes}
use Rattle.wire_fields.specs.Parts.{node_name, boot}
use Rattle.frame_wire.specs.declared.store_command.StoreCommand.{StoreCommand}
use Rattle.frame_wire.specs.declared.store_command.StoreCommand.TheVariants.{Boot, Tx, Get, PutReminder, GetReminder, DeleteReminder, Due, Fired}
use Rattle.state_rows.specs.declared.op.StateOp.{StateOp}
use Rattle.state_rows.specs.declared.op.StateOp.TheVariants.{Upsert, Delete}
use Rattle.store_payloads.specs.declared.payload.PayloadBody.{PayloadBody}
use Rattle.store_payloads.specs.declared.payload.PayloadBody.TheVariants.{Command, Row}
use Rattle.store_payloads.specs.declared.payload.StorePayload.{StorePayload}
use Rattle.store_payloads.specs.Payloads.{payload_reading}

-- ---- the spaces that it lacks

-- `default`
abbrev pub default_name : List ℕ
default_name = 100 ∷ 101 ∷ 102 ∷ 97 ∷ 117 ∷ 108 ∷ 116 ∷ []

-- that space, as its field spells it
abbrev pub default_space : List ℕ
default_space = 7 ∷ default_name

-- the writing commands that begin with a stamp, and have their actor behind it
abbrev pub is_stamped : ℕ → Bool
is_stamped kind = kind == 33 || kind == 35 || kind == 37 || kind == 39

-- how long a stamp was: a node's name behind its length, boot, part and number
abbrev pub stamp_length : List ℕ → ℕ
stamp_length [] = 1
stamp_length (n ∷ rest) = 18 + n

-- the fields, with a space in front of the node, and of the actor
abbrev pub spaced_stamp : ℕ → List ℕ → Option (List ℕ)
spaced_stamp n fields = if nat_lt (length fields) n then None else Some (default_space ++ (take n fields ++ (default_space ++ drop n fields)))

-- Every other command that was written, and every row of a snapshot, begins with its node or its actor.
abbrev pub spaced_fields : ℕ → List ℕ → Option (List ℕ)
spaced_fields kind fields = if is_stamped kind then spaced_stamp (stamp_length fields) fields else Some (default_space ++ fields)

abbrev pub spaced_behind : List ℕ → List ℕ → Option (List ℕ)
spaced_behind moment [] = None
spaced_behind moment (kind ∷ fields) = option_map (λ fs. moment ++ kind ∷ fs) (spaced_fields kind fields)

-- the payload, with the space `default` wherever one stands now
unfoldable pub spaced : List ℕ → Option (List ℕ)
spaced payload = spaced_behind (take 8 payload) (drop 8 payload)

-- ---- how it is read

-- a value had at most 1 MiB
abbrev pub is_short_op : StateOp → Bool
is_short_op (Upsert key value ttl) = nat_le (length value) 1048576
is_short_op (Delete key) = true

abbrev pub are_short : List StateOp → Bool
are_short [] = true
are_short (op ∷ ops) = is_short_op op && are_short ops

-- whether it could be accepted as far as its values go
abbrev pub is_short_command : StoreCommand → Bool
is_short_command (Boot space node) = true
is_short_command (Tx s actor ops) = are_short ops
is_short_command (Get actor key) = true
is_short_command (PutReminder s actor name r) = true
is_short_command (GetReminder actor name) = true
is_short_command (DeleteReminder s actor name) = true
is_short_command (Due after limit) = true
is_short_command (Fired s actor name m) = true

abbrev pub is_short : PayloadBody → Bool
is_short (Command c) = is_short_command c
is_short (Row r) = true

abbrev pub only_short : Option StorePayload → Option StorePayload
only_short None = None
only_short (Some p) = if is_short p.body then Some p else None

-- what a payload of the first form says, if it has a reading
abbrev pub first_reading : List ℕ → Option StorePayload
first_reading payload = only_short (option_and_then payload_reading (spaced payload))

-- what a payload says in the first form, or in the one of today
abbrev pub reading_in : Bool → List ℕ → Option StorePayload
reading_in true payload = first_reading payload
reading_in false payload = payload_reading payload

-- ---- which form a file has

-- a payload that has no reading today, but had one in the first form
abbrev pub is_first_payload : List ℕ → Bool
is_first_payload payload = not (is_some (payload_reading payload)) && is_some (first_reading payload)

-- the first payload tells the form of all
abbrev pub is_first_form : List (List ℕ) → Bool
is_first_form [] = false
is_first_form (payload ∷ payloads) = is_first_payload payload

-- ---- what an old file begins with

-- a boot, as it was written
abbrev pub first_boot : ℕ → List ℕ → List ℕ
first_boot now node = to_be_bytes w64 now ++ 32 ∷ node_name.spell node

-- the row of one, behind the Generation
abbrev pub first_boot_row : ℕ → List ℕ → ℕ → List ℕ
first_boot_row now node n = to_be_bytes w64 now ++ 129 ∷ node_name.spell node ++ boot.spell n

-- the payload has this meaning in the first form, and none today
pub record IsOld (payload : List ℕ) (now : ℕ) (body : PayloadBody) : Type 0 where
  pub today : payload_reading payload ≡ None
  pub first : first_reading payload ≡ Some (record { now = now; body = body })
