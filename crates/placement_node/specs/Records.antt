-- Records of a placement, and the payloads that keep them in its journal. Own.
use Rattle.std.specs.Prelude.{◌≡◌, ℕ, List, [], ◌∷◌, map, Option, None, Some, option_map, Result, Ok, Err}
use Rattle.placement_core.specs.Entries.{EntryOf}
use Rattle.placement_core.specs.Readings.{entries_of}
use Rattle.placement_core.specs.declared.entry.PlacementRecord.{PlacementRecord}
use Rattle.placement_payloads.specs.declared.error.PayloadError.{PayloadError}
use Rattle.placement_payloads.specs.declared.error.PayloadError.TheVariants as errors
use Rattle.placement_payloads.specs.Payloads.{Entry, payload, payload_reading}

-- an entry as it stands in a payload
abbrev pub spelled_entry : EntryOf → Entry
spelled_entry e = (e.space, e.change)

-- an entry as it was read
abbrev pub read_entry : Entry → EntryOf
read_entry p = record { space = p.0; change = p.1 }

-- the payload of a record
abbrev pub payload_of : List EntryOf → List ℕ
payload_of es = payload.spell (map spelled_entry es)

-- what goes to the journal: nothing if there is nothing to record
abbrev pub payloads_of : List EntryOf → List (List ℕ)
payloads_of [] = []
payloads_of (e ∷ es) = payload_of (e ∷ es) ∷ []

-- the record of which these bytes are the payload, if there is one
abbrev pub record_in : List ℕ → Option (List EntryOf)
record_in bytes = option_map (map read_entry) (payload_reading bytes)

abbrev pub with_record : Option (List EntryOf) → Option (List (List EntryOf)) → Option (List (List EntryOf))
with_record None records = None
with_record (Some r) None = None
with_record (Some r) (Some records) = Some (r ∷ records)

-- the records of payloads, if each has one
abbrev pub records_in : List (List ℕ) → Option (List (List EntryOf))
records_in [] = Some []
records_in (bytes ∷ payloads) = with_record (record_in bytes) (records_in payloads)

-- what was read is the record of the payload; memory may run out at any time
abbrev pub ReadsRecord : Result PlacementRecord PayloadError → Option (List EntryOf) → Type 0
ReadsRecord (Ok r) read = read ≡ Some (entries_of r)
ReadsRecord (Err errors.NoReading) read = read ≡ None
ReadsRecord (Err errors.OutOfMemory) read = Unit {0}
