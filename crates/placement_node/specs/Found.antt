-- What an opening finds in the payloads of a journal. Own.
use Rattle.std.specs.Prelude.{◌≡◌, ℕ, ◌+◌, List, [], ◌∷◌, length, Option, None, Some, Result, Ok, Err}
use Rattle.tx_journal.specs.declared.error.JournalError.{JournalError}
use Rattle.tx_journal.specs.declared.error.JournalError.TheVariants as faults
use Rattle.placement_core.specs.Entries.{EntryOf, placement_restart_record}
use Rattle.placement_core.specs.Placement.{SpaceRoom, PlacementState, new_placement, placement_restarted}
use Rattle.placement_core.specs.Restores.{after_entries}
use Rattle.placement_node.specs.declared.error.PlacementOpenError.{PlacementOpenError}
use Rattle.placement_node.specs.declared.error.PlacementOpenError.TheVariants.{Journal, BadRecord}
use Rattle.placement_node.specs.Records.{payloads_of, record_in}

-- the rooms after a record, or that it is a bad one
abbrev pub after_record : ℕ → ℕ → Option (List SpaceRoom) → Result (List SpaceRoom) PlacementOpenError
after_record index offset None = Err (BadRecord index offset)
after_record index offset (Some rooms) = Ok rooms

-- the rooms after a payload, which has this index and this offset in the file: it is damaged if it has no reading
abbrev pub after_payload : ℕ → ℕ → List SpaceRoom → Option (List EntryOf) → Result (List SpaceRoom) PlacementOpenError
after_payload index offset rooms None = Err (Journal (faults.Damaged offset))
after_payload index offset rooms (Some r) = after_record index offset (after_entries rooms r)

abbrev pub go_on : Result (List SpaceRoom) PlacementOpenError → (List SpaceRoom → Result (List SpaceRoom) PlacementOpenError) → Result (List SpaceRoom) PlacementOpenError
go_on (Ok rooms) next = next rooms
go_on (Err e) next = Err e

-- the rooms after these payloads, or what is wrong with the first that has no reading or a bad record; the first
-- payload has this index and this offset
abbrev pub rooms_found : ℕ → ℕ → List SpaceRoom → List (List ℕ) → Result (List SpaceRoom) PlacementOpenError
rooms_found index offset rooms [] = Ok rooms
rooms_found index offset rooms (bytes ∷ payloads) =
    go_on (after_payload index offset rooms (record_in bytes)) (λ more. rooms_found (index + 1) (offset + 5 + length bytes) more payloads)

-- the offset of a file's first payload: a head of 8 bytes, a gate and a length stand before it
abbrev pub first_offset : ℕ
first_offset = 13

-- the rooms after all payloads of a file
abbrev pub all_found : List (List ℕ) → Result (List SpaceRoom) PlacementOpenError
all_found payloads = rooms_found 0 first_offset new_placement.rooms payloads

abbrev pub restarted_of : Result (List SpaceRoom) PlacementOpenError → ℕ → Result PlacementState PlacementOpenError
restarted_of (Ok rooms) now = Ok (placement_restarted (record { rooms = rooms }) now)
restarted_of (Err e) now = Err e

-- the placement of these payloads: the restart of the rooms after their records
abbrev pub placement_found : List (List ℕ) → ℕ → Result PlacementState PlacementOpenError
placement_found payloads now = restarted_of (all_found payloads) now

abbrev pub restart_entries : Result (List SpaceRoom) PlacementOpenError → ℕ → List EntryOf
restart_entries (Ok rooms) now = placement_restart_record (record { rooms = rooms }) now
restart_entries (Err e) now = []

-- what the restart has to write before anything is answered
abbrev pub restart_payloads : List (List ℕ) → ℕ → List (List ℕ)
restart_payloads payloads now = payloads_of (restart_entries (all_found payloads) now)

-- an error of the reading is the one that is found; a disk fault and want of memory say nothing about the payloads
abbrev pub IsFault : PlacementOpenError → Result (List SpaceRoom) PlacementOpenError → Type 0
IsFault (Journal faults.DiskFault) found = Unit {0}
IsFault (Journal faults.OutOfMemory) found = Unit {0}
IsFault e found = found ≡ Err e

-- why a payload isn't read
abbrev pub read_error : JournalError → PlacementOpenError
read_error faults.DiskFault = Journal faults.DiskFault
read_error (faults.Damaged offset) = Journal faults.OutOfMemory
read_error (faults.TooLong n) = Journal faults.OutOfMemory
read_error (faults.Full len) = Journal faults.OutOfMemory
read_error faults.Reopen = Journal faults.OutOfMemory
read_error faults.NotStarted = Journal faults.OutOfMemory
read_error faults.OneDisk = Journal faults.OutOfMemory
read_error (faults.Spent count) = Journal faults.OutOfMemory
read_error faults.OutOfMemory = Journal faults.OutOfMemory

-- the errors of following a payload: none comes from the disk
abbrev pub IsPayloadError : PlacementOpenError → Type 0
IsPayloadError (BadRecord index offset) = Unit {0}
IsPayloadError (Journal (faults.Damaged offset)) = Unit {0}
IsPayloadError (Journal faults.OutOfMemory) = Unit {0}
IsPayloadError e = ⊥
