-- What a function of the code has read, compared with what the reading of a body gives. Own.
use Rattle.std.specs.Prelude.{◌≡◌, ◌⊎◌, List, [], ◌∷◌, Result, Ok, Err}
use Rattle.schedule_text.specs.Reading.{◌>>=◌}
use Rattle.api_bodies.specs.declared.error.BodyError.{BodyError}
use Rattle.api_bodies.specs.declared.error.BodyError.TheVariants.{OutOfMemory}
use Rattle.api_bodies.specs.declared.fault.Fault.{Fault}
use Rattle.api_bodies.specs.declared.fault.Fault.TheVariants.{Memory, Refused}

-- each element is read, in order; the first error counts
abbrev pub read_all : {A B : Type 0} → (A → Result B BodyError) → List A → Result (List B) BodyError
read_all f [] = Ok []
read_all f (x ∷ xs) = f x >>= λ y. read_all f xs >>= λ ys. Ok (y ∷ ys)

-- memory may run out at any time
abbrev pub Fails : {Y : Type 0} → Fault → Result Y BodyError → Type 0
Fails Memory reading = Unit {0}
Fails (Refused error) reading = reading ≡ Err error

-- what was read, seen through a view, is what the reading gives
abbrev pub Gives : {X Y : Type 0} → (X → Y) → Result X Fault → Result Y BodyError → Type 0
Gives view (Ok x) reading = reading ≡ Ok (view x)
Gives view (Err fault) reading = Fails fault reading

abbrev pub error_of : Fault → BodyError
error_of Memory = OutOfMemory
error_of (Refused error) = error

-- memory may run out at any time; every other answer is that of the definition
abbrev pub ReadsBody : {A : Type 0} → Result A BodyError → Result A BodyError → Type 0
ReadsBody reading (Ok x) = reading ≡ Ok x
ReadsBody reading (Err error) = (error ≡ OutOfMemory) ⊎ (reading ≡ Err error)
