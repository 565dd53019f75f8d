-- Why a name isn't read. Own.
use Rattle.std.specs.Prelude.{ℕ}
use Rattle.actor_names.specs.declared.error.NameError.{NameError}
use Rattle.actor_names.specs.declared.error.NameError.TheVariants.{Empty, TooLong, BadByte, OutOfMemory}
use Rattle.wire_fields.specs.declared.fault.Fault.{Fault}
use Rattle.wire_fields.specs.declared.fault.Fault.TheVariants.{Memory, Field}

-- there is no memory, or the text doesn't have the form
abbrev pub name_fault : NameError → ℕ → Fault
name_fault Empty left = Field left
name_fault (TooLong n) left = Field left
name_fault (BadByte at) left = Field left
name_fault OutOfMemory left = Memory
