-- What a function of the code has read, compared with what the reading of a request gives. Own.
use Rattle.std.specs.Prelude.{◌≡◌, Result, Ok, Err}
use Rattle.actor_names.specs.declared.error.NameError.{NameError}
use Rattle.actor_names.specs.declared.error.NameError.TheVariants as names
use Rattle.api_bodies.specs.declared.error.BodyError.{BodyError}
use Rattle.api_bodies.specs.declared.error.BodyError.TheVariants as bodies
use Rattle.actors_api.specs.declared.refusal.ApiName.{ApiName}
use Rattle.actors_api.specs.declared.refusal.ApiRefusal.{ApiRefusal}
use Rattle.actors_api.specs.declared.refusal.ApiRefusal.TheVariants.{BadName, MalformedBody, OtherNumber, TooLarge, BadSchedule, OutOfMemory}
use Rattle.actors_api.specs.declared.fault.Fault.{Fault}
use Rattle.actors_api.specs.declared.fault.Fault.TheVariants.{Memory, Refused}

-- memory may run out at any time
abbrev pub Fails : {Y : Type 0} → Fault → Result Y ApiRefusal → Type 0
Fails Memory reading = Unit {0}
Fails (Refused refusal) reading = reading ≡ Err refusal

-- what was read, seen through a view, is what the reading gives
abbrev pub Gives : {X Y : Type 0} → (X → Y) → Result X Fault → Result Y ApiRefusal → Type 0
Gives view (Ok x) reading = reading ≡ Ok (view x)
Gives view (Err fault) reading = Fails fault reading

-- what is answered to a fault
abbrev pub refusal_of : Fault → ApiRefusal
refusal_of Memory = OutOfMemory
refusal_of (Refused refusal) = refusal

-- there is no memory, or the text hasn't the form
abbrev pub name_fault : ApiName → NameError → Fault
name_fault what names.Empty = Refused (BadName what)
name_fault what (names.TooLong n) = Refused (BadName what)
name_fault what (names.BadByte at) = Refused (BadName what)
name_fault what names.OutOfMemory = Memory

-- there is no memory, or the body is refused
abbrev pub body_fault : BodyError → Fault
body_fault bodies.Malformed = Refused MalformedBody
body_fault bodies.OtherNumber = Refused OtherNumber
body_fault (bodies.TooLarge index) = Refused (TooLarge index)
body_fault (bodies.BadSchedule fault) = Refused (BadSchedule fault)
body_fault bodies.OutOfMemory = Memory

-- the refusal of a body
abbrev pub body_refusal : BodyError → ApiRefusal
body_refusal error = refusal_of (body_fault error)

abbrev pub of_body : {A : Type 0} → Result A BodyError → Result A ApiRefusal
of_body (Ok x) = Ok x
of_body (Err error) = Err (body_refusal error)
