-- How a reader answers a text whose first fault is known. Own.
use Rattle.std.specs.Prelude.{◌≡◌, Option, Some, None, Result, Err, IsOk, IsOkUnless}
use Rattle.actor_names.specs.declared.error.NameError.{NameError}
use Rattle.actor_names.specs.declared.error.NameError.TheVariants.{OutOfMemory}

-- a text with a fault is refused with that very fault; any other is read, unless there is no memory for it
abbrev pub ReadsInMemory : {A : Type 0} → Option NameError → Result A NameError → Type 0
ReadsInMemory None answer = IsOkUnless answer OutOfMemory
ReadsInMemory (Some fault) answer = answer ≡ Err fault

-- a text with a fault is refused with that very fault; any other is read
abbrev pub ReadsInPlace : {A : Type 0} → Option NameError → Result A NameError → Type 0
ReadsInPlace None answer = IsOk answer
ReadsInPlace (Some fault) answer = answer ≡ Err fault
