-- The epoch of an actor, and the transaction that sets it. Own, after the notion of a fencing token.
use Rattle.std.specs.Prelude.{ℕ, ◌≤◌, Bool, bytes_eq, List, [], ◌∷◌, ◌++◌, Option, None, Some, codes, decimal}
use Rattle.actor_names.specs.declared.actor_key.ActorKey.{ActorKey}
use Rattle.lists_and_limits.specs.Decimals.{number_of}
use Rattle.state_rows.specs.declared.entry.StateEntry.{StateEntry}
use Rattle.state_rows.specs.declared.op.StateOp.{StateOp}
use Rattle.state_rows.specs.declared.op.StateOp.TheVariants.{Upsert, Delete}
use Rattle.state_rows.specs.Entries.{entry_at, value_by}
use Rattle.frame_wire.specs.declared.store_answer.StoreAnswer.{StoreAnswer}
use Rattle.frame_wire.specs.declared.store_answer.StoreAnswer.TheVariants.{Value}
use Rattle.frame_wire.specs.declared.store_command.StoreCommand.{StoreCommand}
use Rattle.frame_wire.specs.declared.store_command.StoreCommand.TheVariants.{Tx}
use Rattle.store_tables.specs.Tables.{Tables}

-- the key of each actor's state at which its epoch stands
abbrev pub epoch_key : List ℕ
epoch_key = codes "actors.epoch"

abbrev pub is_epoch_key : List ℕ → Bool
is_epoch_key key = bytes_eq key epoch_key

-- ---- the epoch of an actor

-- a number below 2^64 whose decimal text is there, and 0 without one
abbrev pub or_zero : Option ℕ → ℕ
or_zero None = 0
or_zero (Some epoch) = epoch

abbrev pub epoch_in : Option (List ℕ) → ℕ
epoch_in None = 0
epoch_in (Some value) = or_zero (number_of 18446744073709551615 value)

-- what an answer for the key tells of it
abbrev pub epoch_told : Option StoreAnswer → ℕ
epoch_told (Some (Value value)) = epoch_in (Some value)
epoch_told answer = 0

-- what stands at the key of an actor
abbrev pub epoch_entry : ActorKey → Tables → Option StateEntry
epoch_entry actor t = entry_at actor epoch_key t.rows

-- the epoch of an actor at a moment, in milliseconds since 1970
abbrev pub actor_epoch : ActorKey → ℕ → Tables → ℕ
actor_epoch actor now t = epoch_in (value_by now (epoch_entry actor t))

-- a writer of this epoch may write to the actor
abbrev pub EpochAtLeast : ℕ → ActorKey → ℕ → Tables → Type 0
EpochAtLeast epoch actor now t = actor_epoch actor now t ≤ epoch

-- ---- the transaction that sets it

-- the key that an operation names
abbrev pub key_of : StateOp → List ℕ
key_of (Upsert key value ttl) = key
key_of (Delete key) = key

-- the operation that sets the epoch; what it sets has no ttl
abbrev pub epoch_upsert : ℕ → StateOp
epoch_upsert epoch = Upsert epoch_key (decimal epoch) None

-- operations, and behind them the one that sets the epoch
abbrev pub fenced_ops : ℕ → List StateOp → List StateOp
fenced_ops epoch ops = ops ++ epoch_upsert epoch ∷ []

-- a transaction that sets the epoch of its actor, too
abbrev pub fenced_transaction : ℕ → StoreCommand → StoreCommand
fenced_transaction epoch (Tx s actor ops) = Tx s actor (fenced_ops epoch ops)
fenced_transaction epoch c = c
