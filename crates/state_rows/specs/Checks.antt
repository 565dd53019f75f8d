-- Why the operations of a transaction are refused. Own.
use Rattle.std.specs.Prelude.{ℕ, suc, ◌||◌, ◌==◌, nat_lt, if◌then◌else◌, List, [], ◌∷◌, length, Option, None, Some}
use Rattle.state_rows.specs.declared.op.StateOp.{StateOp}
use Rattle.state_rows.specs.declared.op.StateOp.TheVariants.{Upsert, Delete}
use Rattle.state_rows.specs.declared.error.StateError.{StateError}
use Rattle.state_rows.specs.declared.error.StateError.TheVariants.{TooManyOps, KeyTooLong, ValueTooLong, OutOfMemory}

-- a key of no bytes, or of more than 256
abbrev pub key_fault : ℕ → List ℕ → Option StateError
key_fault op key = if (length key == 0) || nat_lt 256 (length key) then Some (KeyTooLong op (length key)) else None

-- a value of more than 4 MiB
abbrev pub value_fault : ℕ → List ℕ → Option StateError
value_fault op value = if nat_lt 4194304 (length value) then Some (ValueTooLong op (length value)) else None

-- the earlier of two faults
abbrev pub first_of : Option StateError → Option StateError → Option StateError
first_of None later = later
first_of (Some e) later = Some e

-- the fault of the key comes before that of the value
abbrev pub op_fault : ℕ → StateOp → Option StateError
op_fault op (Upsert key value ttl) = first_of (key_fault op key) (value_fault op value)
op_fault op (Delete key) = key_fault op key

-- the fault of the first operation at fault, if the first operation has this number
abbrev pub first_fault : ℕ → List StateOp → Option StateError
first_fault op [] = None
first_fault op (o ∷ os) = first_of (op_fault op o) (first_fault (suc op) os)

-- too many operations, or the first one at fault
abbrev pub ops_fault : List StateOp → Option StateError
ops_fault ops = if nat_lt 1000 (length ops) then Some (TooManyOps (length ops)) else first_fault 0 ops

-- the error of a call that failed: that of the rules, or OutOfMemory if they have none
abbrev pub or_memory : Option StateError → StateError
or_memory None = OutOfMemory
or_memory (Some e) = e
