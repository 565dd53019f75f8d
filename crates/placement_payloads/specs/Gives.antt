-- What the code has read, compared with the reading. Own.
use Rattle.std.specs.Prelude.{◌≡◌, List, map, Option, Some, None, Result, Ok, Err}
use Rattle.wire_fields.specs.declared.fault.Fault.{Fault}
use Rattle.wire_fields.specs.declared.fault.Fault.TheVariants as faults
use Rattle.round_core.specs.Records.{record_of}
use Rattle.placement_payloads.specs.declared.entry.RoomEntry.{RoomEntry}
use Rattle.placement_payloads.specs.declared.error.PayloadError.{PayloadError}
use Rattle.placement_payloads.specs.declared.error.PayloadError.TheVariants as errors
use Rattle.placement_payloads.specs.Payloads.{Entry}

abbrev pub entry_of : RoomEntry → Entry
entry_of e = (e.space, record_of e.change)

abbrev pub entries_of : List RoomEntry → List Entry
entries_of es = map entry_of es

abbrev pub payload_error : Fault → PayloadError
payload_error faults.Memory = errors.OutOfMemory
payload_error (faults.Field left) = errors.NoReading

-- what was read, seen through a view, is what the reading gives; memory may run out at any time
abbrev pub GivesPayload : {X : Type 0} → (X → List Entry) → Result X PayloadError → Option (List Entry) → Type 0
GivesPayload view (Ok x) read = read ≡ Some (view x)
GivesPayload view (Err errors.NoReading) read = read ≡ None
GivesPayload view (Err errors.OutOfMemory) read = Unit {0}
