-- What the code has read, compared with the reading. Own.
use Rattle.std.specs.Prelude.{◌≡◌, Option, Some, None, Result, Ok, Err}
use Rattle.store_payloads.specs.declared.error.PayloadError.{PayloadError}
use Rattle.store_payloads.specs.declared.error.PayloadError.TheVariants as errors
use Rattle.store_payloads.specs.declared.payload.StorePayload.{StorePayload}
use Rattle.wire_fields.specs.declared.fault.Fault.{Fault}
use Rattle.wire_fields.specs.declared.fault.Fault.TheVariants as faults
use Rattle.frame_wire.specs.declared.error.FrameError.{FrameError}
use Rattle.frame_wire.specs.declared.error.FrameError.TheVariants as frames

abbrev pub of_fault : Fault → PayloadError
of_fault faults.Memory = errors.OutOfMemory
of_fault (faults.Field left) = errors.NoReading

abbrev pub of_frame : FrameError → PayloadError
of_frame frames.OutOfMemory = errors.OutOfMemory
of_frame (frames.BadKind at k) = errors.NoReading
of_frame (frames.BadField at) = errors.NoReading
of_frame (frames.TooLong n) = errors.NoReading

-- what was read is what the reading gives; memory may run out at any time
abbrev pub GivesPart : {X : Type 0} → Result X PayloadError → Option X → Type 0
GivesPart (Ok x) read = read ≡ Some x
GivesPart (Err errors.NoReading) read = read ≡ None
GivesPart (Err errors.OutOfMemory) read = Unit {0}
