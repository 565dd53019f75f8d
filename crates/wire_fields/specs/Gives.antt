-- What a function of the code has read, compared with what the reading of a list gives. Own.
use Rattle.std.specs.Prelude.{◌≡◌, ℕ, Result, Ok, Err}
use Rattle.wire_fields.specs.declared.fault.Fault.{Fault}
use Rattle.wire_fields.specs.declared.fault.Fault.TheVariants.{Memory, Field}

-- memory may run out at any time
abbrev pub Fails : {Y : Type 0} → Fault → Result Y ℕ → Type 0
Fails Memory read = Unit {0}
Fails (Field left) read = read ≡ Err left

-- what was read, seen through a view, is what the reading gives
abbrev pub Gives : {X Y : Type 0} → (X → Y) → Result X Fault → Result Y ℕ → Type 0
Gives view (Ok x) read = read ≡ Ok (view x)
Gives view (Err e) read = Fails e read
