-- The opening of a node. Own.
use Rattle.std.specs.Prelude.{◌≡◌, ◌<◌, ◌⊎◌, ℕ, ◌+◌, Bool, List, [], ◌∷◌, ◌++◌, length, Option, None, Some, Result, Ok, Err, ◌≤◌}
use Rattle.tx_journal.specs.declared.error.JournalError.TheVariants as faults
use Rattle.tx_journal.specs.declared.format.Format.TheVariants.{One}
use Rattle.tx_journal.specs.File.{most_bytes, file_length, Image, image}
use Rattle.tx_journal.specs.Journal.{Rises}
use Rattle.tx_journal.specs.Pair.{Files, live_bytes, ReadsAs, SinceOpened, Holds, IsEither}
use Rattle.tx_journal.specs.Calls.{is_making, FindsIn, MayBeLeftIn, LaterBoth, RefusesFiles}
use Rattle.placement_core.specs.Placement.{PlacementState}
use Rattle.placement_node.specs.declared.error.PlacementOpenError.{PlacementOpenError}
use Rattle.placement_node.specs.declared.error.PlacementOpenError.TheVariants.{Journal, BadRecord}
use Rattle.placement_node.specs.declared.written.Kept.{Kept}
use Rattle.placement_node.specs.declared.written.Kept.TheVariants.{Done, NoMemory, NoRoom, Failed}
use Rattle.placement_node.specs.Found.{placement_found, restart_payloads}

-- what an opening finds: no payloads if it makes the file
abbrev pub Finds : Bool → Files → Image → Type 0
Finds create files found = FindsIn (is_making create files.first files.second) files found

-- the same with the record of the restart behind it, if there is one
abbrev pub with_restart_record : ℕ → Image → Image
with_restart_record now found = image found.format (found.payloads ++ restart_payloads found.payloads now)

-- An opening that is done: the placement is the restart of the records that the file had, and the record of that
-- restart, if there is one, is on the disk. The file wasn't longer than a journal takes.
abbrev pub OpensNode : Bool → ℕ → PlacementState → Files → Files → Type 0
OpensNode create now s old new = (found : Image) × Finds create old found × (placement_found found.payloads now ≡ Ok s) × Holds (with_restart_record now found) new × (length (live_bytes old.first old.second) ≤ most_bytes)

-- the file stands for the payloads that were found, or for these and the record of the restart, and is no longer than a
-- journal takes
abbrev pub IsRestarting : Bool → ℕ → Files → List ℕ → Type 0
IsRestarting create now files file = (found : Image) × Finds create files found × ReadsAs (IsEither found (with_restart_record now found)) One file

-- what a crash in the opening leaves: the file as it was, or while it is made one that isn't made or has no records; or
-- a file of the payloads that were found, with the record of the restart or without it
abbrev pub MayBeLeftBy : Bool → ℕ → Files → List ℕ → Option (List ℕ) → Type 0
MayBeLeftBy create now files file None = MayBeLeftIn (is_making create files.first files.second) files.first files.second file None ⊎ IsRestarting create now files file
MayBeLeftBy create now files file (Some other) = ⊥

-- what a crash may leave once the first sync of the opening is done
abbrev pub KeepsNode : Bool → ℕ → Files → Files → Type 0
KeepsNode create now old new = LaterBoth (MayBeLeftBy create now old) old.first old.second new.first new.second

-- a payload that was found has no reading, or holds a bad record
abbrev pub HasFault : Bool → ℕ → PlacementOpenError → Files → Type 0
HasFault create now e files = (found : Image) × Finds create files found × (placement_found found.payloads now ≡ Err e)

-- the journal, which has this length, has no room for the record of the restart
abbrev pub HasNoRoom : Bool → ℕ → ℕ → Files → Type 0
HasNoRoom create now len files =
    (found : Image) × (payload : List ℕ) × Finds create files found × (restart_payloads found.payloads now ≡ payload ∷ []) × (len ≡ file_length found.payloads) × (most_bytes < len + 5 + length payload)

-- the cause of a refused opening: structure comes first, then the earliest payload without a reading or with a bad record
abbrev pub RefusesNode : Bool → ℕ → PlacementOpenError → Files → Type 0
RefusesNode create now (Journal faults.DiskFault) files = Unit {0}
RefusesNode create now (Journal faults.OutOfMemory) files = Unit {0}
RefusesNode create now (Journal (faults.Damaged offset)) files = RefusesFiles create (faults.Damaged offset) files ⊎ HasFault create now (Journal (faults.Damaged offset)) files
RefusesNode create now (Journal (faults.Full len)) files = RefusesFiles create (faults.Full len) files ⊎ HasNoRoom create now len files
RefusesNode create now (BadRecord index offset) files = HasFault create now (BadRecord index offset) files
RefusesNode create now e files = ⊥

-- the errors of an opening, whether or not the disk reports its state
abbrev pub IsNodeError : PlacementOpenError → Type 0
IsNodeError (Journal faults.DiskFault) = Unit {0}
IsNodeError (Journal faults.OutOfMemory) = Unit {0}
IsNodeError (Journal (faults.Damaged offset)) = Unit {0}
IsNodeError (Journal (faults.Full len)) = Unit {0}
IsNodeError (BadRecord index offset) = Unit {0}
IsNodeError e = ⊥

-- the count of faults doesn't fall; if the call answers DiskFault, it rises or is at its maximum
abbrev pub NodeCosts : {T : Type 0} → ℕ → ℕ → Result T PlacementOpenError → Type 0
NodeCosts before after (Ok x) = before ≤ after
NodeCosts before after (Err (Journal faults.DiskFault)) = Rises before after
NodeCosts before after (Err e) = before ≤ after

-- a restart of a journal's records: whatever a crash leaves at any moment of it stands for the payloads that the journal
-- held, or for these and the record of the restart
abbrev pub CommitsRestart : ℕ → Files → Files → Type 0
CommitsRestart now old new = (held : Image) → Holds held old → SinceOpened (IsEither held (with_restart_record now held)) old new

-- once it is done, the journal holds that record too
abbrev pub CommittedRestart : ℕ → Files → Files → Type 0
CommittedRestart now old new = (held : Image) → Holds held old → Holds (with_restart_record now held) new

-- why a journal of these payloads isn't restarted
abbrev pub RefusesRestart : ℕ → PlacementOpenError → List (List ℕ) → Type 0
RefusesRestart now (Journal faults.DiskFault) payloads = Unit {0}
RefusesRestart now (Journal faults.OutOfMemory) payloads = Unit {0}
RefusesRestart now (Journal (faults.Damaged offset)) payloads = placement_found payloads now ≡ Err (Journal (faults.Damaged offset))
RefusesRestart now (Journal (faults.Full len)) payloads = (payload : List ℕ) × (restart_payloads payloads now ≡ payload ∷ []) × (len ≡ file_length payloads) × (most_bytes < len + 5 + length payload)
RefusesRestart now (BadRecord index offset) payloads = placement_found payloads now ≡ Err (BadRecord index offset)
RefusesRestart now e payloads = ⊥

-- why the record of a restart isn't written
abbrev pub write_error : Kept → Result (Unit {0}) PlacementOpenError
write_error Done = Ok tt
write_error NoMemory = Err (Journal faults.OutOfMemory)
write_error (NoRoom len) = Err (Journal (faults.Full len))
write_error Failed = Err (Journal faults.DiskFault)
