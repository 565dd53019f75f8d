-- A file at rest, and what the steps of a journal do to one disk: own.
use Rattle.std.specs.Prelude.{◌≡◌, ◌≢◌, ◌<◌, ◌≤◌, ◌⊎◌, ℕ, suc, ◌+◌, Bool, true, false, not, ◌&&◌, List, [], ◌∷◌, ◌++◌, length, take, drop, Vec, slice_get, Option, Some, None, Result, Ok, Err}
use Rattle.std.specs.List.{AllByRecursion}
use Rattle.actor_ports.specs.declared.port.PortError.{PortError}
use Rattle.actor_ports.specs.declared.port.PortError.TheVariants as ports
use Rattle.disk_model.specs.Disk.{DiskState, IsSpent}
use Rattle.disk_model.specs.Crash.{IsDurable, Later, Since}
use Rattle.tx_journal.specs.declared.error.JournalError.{JournalError}
use Rattle.tx_journal.specs.declared.error.JournalError.TheVariants.{DiskFault, Damaged, TooLong, Full, Reopen, NotStarted, OneDisk, Spent, OutOfMemory}
use Rattle.tx_journal.specs.declared.format.Format.{Format}
use Rattle.tx_journal.specs.declared.find.Cursor.{Cursor}
use Rattle.tx_journal.specs.declared.kind.FileKind.{FileKind}
use Rattle.tx_journal.specs.declared.kind.FileKind.TheVariants.{Unmade, Other, Journal as Journal_}
use Rattle.tx_journal.specs.File.{name, head, framed, records, spelled, IsShort, most_bytes, payloads_from, file_payloads, is_made, FileMade, is_known, JournalImage, IsBeingMade}

-- the bytes are a file of this known format and these payloads, with a closed gate just before the offset `end` and any
-- bytes behind it, up to the most bytes of a file
pub record IsAtRest (newest format : Format) (payloads : List (List ℕ)) (end : ℕ) (bytes : List ℕ) : Type 0 where
  pub known : is_known newest (name format) ≡ true
  pub gate : ℕ
  pub rest : List ℕ
  pub shut : gate ≢ 1
  pub short : AllByRecursion IsShort payloads
  pub file : bytes ≡ spelled format payloads ++ gate ∷ rest
  pub end_is : end ≡ length (spelled format payloads) + 1
  pub small : length bytes ≤ most_bytes

-- the gate before the record of this index, in a file of these payloads
pub record IsGateOf (payloads : List (List ℕ)) (index gate : ℕ) : Type 0 where
  pub within : index ≤ length payloads
  pub place : gate ≡ 8 + length (records (take index payloads))

-- a disk whose file is at rest and durable, with the gate of an index
pub record IsSettled (newest format : Format) (payloads : List (List ℕ)) (end : ℕ) (cursor : Cursor) (d : DiskState) : Type 0 where
  pub file : IsAtRest newest format payloads end d.bytes
  pub durable : IsDurable d
  pub gate : IsGateOf payloads cursor.index cursor.gate

-- the bytes are such a file, wherever its last gate is
abbrev pub IsSpelled : Format → Format → List (List ℕ) → List ℕ → Type 0
IsSpelled newest format payloads file = (end : ℕ) × IsAtRest newest format payloads end file

-- a file of the payloads, with all of a batch behind them or with none of it
abbrev pub RestsBeforeOrAfter : Format → Format → List (List ℕ) → List (List ℕ) → List ℕ → Type 0
RestsBeforeOrAfter newest format payloads batch file = IsSpelled newest format payloads file ⊎ IsSpelled newest format (payloads ++ batch) file

-- the count of faults rose, or is at its maximum
abbrev pub Rises : ℕ → ℕ → Type 0
Rises before after = (before < after) ⊎ IsSpent after

-- the bytes behind a gate that is to be opened: the records of a batch that isn't empty, and a closed gate
abbrev pub IsText : List (List ℕ) → List ℕ → Type 0
IsText batch bytes = 1 ∷ bytes ≡ records batch ++ 0 ∷ []

-- What a crash may leave in the four calls of an append, on a durable disk at rest: the payloads before or after it.
abbrev pub PutsRecords : ℕ → List ℕ → DiskState → DiskState → Type 0
PutsRecords end bytes d e = (newest format : Format) (payloads batch : List (List ℕ)) → IsAtRest newest format payloads end d.bytes → IsDurable d → AllByRecursion IsShort batch → IsText batch bytes → end + length bytes ≤ most_bytes → Since (RestsBeforeOrAfter newest format payloads batch) d e

-- what they leave if each is done
abbrev pub HasRecords : ℕ → List ℕ → DiskState → DiskState → Type 0
HasRecords end bytes d e = (newest format : Format) (payloads batch : List (List ℕ)) → IsAtRest newest format payloads end d.bytes → IsDurable d → AllByRecursion IsShort batch → IsText batch bytes → end + length bytes ≤ most_bytes → IsAtRest newest format (payloads ++ batch) (end + length bytes) e.bytes × IsDurable e

-- how a journal answers an error of its disk
abbrev pub as_journal : PortError → JournalError
as_journal ports.Failed = DiskFault
as_journal ports.OutOfMemory = OutOfMemory

-- the count of faults doesn't fall; if the call answers DiskFault, it rises or is at its maximum
abbrev pub Costs : {T : Type 0} → ℕ → ℕ → Result T JournalError → Type 0
Costs before after (Ok x) = before ≤ after
Costs before after (Err DiskFault) = Rises before after
Costs before after (Err (Damaged offset)) = before ≤ after
Costs before after (Err (TooLong n)) = before ≤ after
Costs before after (Err (Full len)) = before ≤ after
Costs before after (Err Reopen) = before ≤ after
Costs before after (Err NotStarted) = before ≤ after
Costs before after (Err OneDisk) = before ≤ after
Costs before after (Err (Spent count)) = before ≤ after
Costs before after (Err OutOfMemory) = before ≤ after

-- the file has just these bytes
abbrev pub IsSame : List ℕ → List ℕ → Type 0
IsSame bytes file = file ≡ bytes

-- an opening makes a file that isn't made, if that is asked for
abbrev pub is_to_make : Bool → List ℕ → Bool
is_to_make create bytes = create && not (is_made bytes)

-- what a crash in the opening leaves: if a file is being made, one that isn't made or has no records; else the file as
-- it was read
abbrev pub MayBeLeft : Format → Bool → List ℕ → List ℕ → Type 0
MayBeLeft newest true bytes file = IsBeingMade newest bytes file
MayBeLeft newest false bytes file = IsSame bytes file

-- what a crash may leave once the first sync of an opening is done
abbrev pub KeepsFile : Format → Bool → DiskState → DiskState → Type 0
KeepsFile newest create d e = Later (MayBeLeft newest (is_to_make create d.bytes) d.bytes) d e

-- an opened file: a new one without records, or the payloads of the file
abbrev pub OpensAs : Format → Bool → List ℕ → List (List ℕ) → Type 0
OpensAs newest true bytes payloads = payloads ≡ []
OpensAs newest false bytes payloads = JournalImage newest payloads bytes

-- what an opening that is done found or made; the file wasn't longer than the most bytes of one
abbrev pub Opens : Format → Bool → ℕ × Format → DiskState → DiskState → Type 0
Opens newest create found d e = (is_to_make create d.bytes ≡ false → e.bytes ≡ d.bytes) × (payloads : List (List ℕ)) × OpensAs newest (is_to_make create d.bytes) d.bytes payloads × IsAtRest newest found.1 payloads found.0 e.bytes × IsDurable e × (length d.bytes ≤ most_bytes)

-- the cause of a refused opening
abbrev pub Refuses : Format → Bool → JournalError → DiskState → Type 0
Refuses newest create DiskFault d = Unit {0}
Refuses newest create (Damaged offset) d = (is_to_make create d.bytes ≡ false) × (file_payloads newest d.bytes ≡ Err offset)
Refuses newest create (TooLong n) d = ⊥
Refuses newest create (Full len) d = (len ≡ length d.bytes) × (most_bytes < len)
Refuses newest create Reopen d = ⊥
Refuses newest create NotStarted d = ⊥
Refuses newest create OneDisk d = ⊥
Refuses newest create (Spent count) d = ⊥
Refuses newest create OutOfMemory d = Unit {0}

-- what is at a gate: a closed gate, a record up to the next gate, or damage: no gate, or no whole record behind it
abbrev pub StandsAt : ℕ → Result (Option ℕ) JournalError → DiskState → Type 0
StandsAt at (Ok None) d = (gate : ℕ) × (rest : List ℕ) × (gate ≢ 1) × (drop at d.bytes ≡ gate ∷ rest)
StandsAt at (Ok (Some next)) d = (payload : List ℕ) × IsShort payload × (drop at d.bytes ≡ 1 ∷ framed payload ++ drop next d.bytes) × (next ≡ at + 5 + length payload)
StandsAt at (Err (Damaged offset)) d = (most : ℕ) → payloads_from (suc most) at (drop at d.bytes) ≡ Err offset
StandsAt at (Err (TooLong n)) d = ⊥
StandsAt at (Err (Full len)) d = ⊥
StandsAt at (Err Reopen) d = ⊥
StandsAt at (Err NotStarted) d = ⊥
StandsAt at (Err OneDisk) d = ⊥
StandsAt at (Err (Spent count)) d = ⊥
StandsAt at (Err DiskFault) d = Unit {0}
StandsAt at (Err OutOfMemory) d = Unit {0}

-- an error that only the disk brings, or running out of memory
abbrev pub IsPortFault : JournalError → Type 0
IsPortFault e = (e ≡ DiskFault) ⊎ (e ≡ OutOfMemory)

-- what reading a made file from gate to gate found
abbrev pub Scans : Format → Format → Result ℕ JournalError → DiskState → Type 0
Scans newest format (Ok end) d = (payloads : List (List ℕ)) × IsAtRest newest format payloads end d.bytes
Scans newest format (Err (Damaged offset)) d = file_payloads newest d.bytes ≡ Err offset
Scans newest format (Err (TooLong n)) d = ⊥
Scans newest format (Err (Full len)) d = ⊥
Scans newest format (Err Reopen) d = ⊥
Scans newest format (Err NotStarted) d = ⊥
Scans newest format (Err OneDisk) d = ⊥
Scans newest format (Err (Spent count)) d = ⊥
Scans newest format (Err DiskFault) d = Unit {0}
Scans newest format (Err OutOfMemory) d = Unit {0}

-- the first byte is there and isn't 1
abbrev pub IsShut : List ℕ → Type 0
IsShut bytes = (gate : ℕ) × (rest : List ℕ) × (gate ≢ 1) × (bytes ≡ gate ∷ rest)

-- what a crash may leave while a file whose first byte isn't 1 is made
abbrev pub Makes : Format → DiskState → DiskState → Type 0
Makes format d e = IsDurable d → IsShut d.bytes → Later (IsBeingMade format d.bytes) d e

-- it is made, without records
abbrev pub IsNew : Format → DiskState → DiskState → Type 0
IsNew format d e = IsDurable d → IsShut d.bytes → length d.bytes ≤ most_bytes → IsAtRest format format [] 9 e.bytes × IsDurable e

-- what a crash may leave while a file of at most one byte gets the first byte 0
abbrev pub Shuts : Format → DiskState → DiskState → Type 0
Shuts format d e = IsDurable d → length d.bytes ≤ 1 → Later (IsBeingMade format d.bytes) d e

-- it is a closed first byte, on the disk
abbrev pub WasShut : DiskState → DiskState → Type 0
WasShut d e = IsDurable d → length d.bytes ≤ 1 → IsShut e.bytes × IsDurable e × (1 ≤ length e.bytes) × (length e.bytes ≤ 1)

-- what a crash may leave while a file that isn't made is made
abbrev pub Creates : Format → DiskState → DiskState → Type 0
Creates format d e = IsDurable d → is_made d.bytes ≡ false → Later (IsBeingMade format d.bytes) d e

-- it was made, without records
abbrev pub IsCreated : Format → DiskState → DiskState → Type 0
IsCreated format d e = IsDurable d → is_made d.bytes ≡ false → length d.bytes ≤ most_bytes → IsAtRest format format [] 9 e.bytes × IsDurable e

-- the errors of an opening, whether or not the disk reports its state
abbrev pub IsOpenError : JournalError → Type 0
IsOpenError DiskFault = Unit {0}
IsOpenError (Damaged offset) = Unit {0}
IsOpenError (TooLong n) = ⊥
IsOpenError (Full len) = most_bytes < len
IsOpenError Reopen = ⊥
IsOpenError NotStarted = ⊥
IsOpenError OneDisk = ⊥
IsOpenError (Spent count) = ⊥
IsOpenError OutOfMemory = Unit {0}

-- what the first bytes of a file say about it, to a journal that knows the formats up to this one
abbrev pub IsKind : Format → List ℕ → FileKind → Type 0
IsKind newest front Unmade = is_made front ≡ false
IsKind newest front Other = FileMade front × (is_known newest (drop 1 front) ≡ false)
IsKind newest front (Journal_ format) = (front ≡ head format) × (is_known newest (name format) ≡ true)

-- a file is read only in a format that the journal knows
abbrev pub IsKnownKind : Format → FileKind → Type 0
IsKnownKind newest Unmade = Unit {0}
IsKnownKind newest Other = Unit {0}
IsKnownKind newest (Journal_ format) = is_known newest (name format) ≡ true

-- the same for a disk whose first bytes were read
abbrev pub LooksLike : Format → DiskState → FileKind → Type 0
LooksLike newest d Unmade = is_made d.bytes ≡ false
LooksLike newest d Other = FileMade d.bytes × (is_known newest (take 7 (drop 1 d.bytes)) ≡ false)
LooksLike newest d (Journal_ format) = (take 8 d.bytes ≡ head format) × (is_known newest (name format) ≡ true)

-- what a replay answers: the payload at the index, or none past the last
abbrev pub Replays : {Z : Type 0} → List (List ℕ) → ℕ → Result (Option (Vec ℕ Z)) JournalError → Type 0
Replays payloads index (Ok None) = length payloads ≤ index
Replays payloads index (Ok (Some payload)) = slice_get payloads index ≡ Some payload.items
Replays payloads index (Err DiskFault) = Unit {0}
Replays payloads index (Err OutOfMemory) = Unit {0}
Replays payloads index (Err (Damaged offset)) = ⊥
Replays payloads index (Err (TooLong n)) = ⊥
Replays payloads index (Err (Full len)) = ⊥
Replays payloads index (Err Reopen) = ⊥
Replays payloads index (Err NotStarted) = ⊥
Replays payloads index (Err OneDisk) = ⊥
Replays payloads index (Err (Spent count)) = ⊥

-- what a search finds: the payload at the index and the gate behind it, or none past the last
abbrev pub Finds : {Z : Type 0} → List (List ℕ) → ℕ → Result (Option (Vec ℕ Z × ℕ)) JournalError → Type 0
Finds payloads index (Ok None) = length payloads ≤ index
Finds payloads index (Ok (Some found)) = (slice_get payloads index ≡ Some found.0.items) × IsGateOf payloads (index + 1) found.1
Finds payloads index (Err DiskFault) = Unit {0}
Finds payloads index (Err OutOfMemory) = Unit {0}
Finds payloads index (Err (Damaged offset)) = ⊥
Finds payloads index (Err (TooLong n)) = ⊥
Finds payloads index (Err (Full len)) = ⊥
Finds payloads index (Err Reopen) = ⊥
Finds payloads index (Err NotStarted) = ⊥
Finds payloads index (Err OneDisk) = ⊥
Finds payloads index (Err (Spent count)) = ⊥

-- the answer is DiskFault
abbrev pub is_fault : {T : Type 0} → Result T JournalError → Bool
is_fault (Ok x) = false
is_fault (Err DiskFault) = true
is_fault (Err (Damaged offset)) = false
is_fault (Err (TooLong n)) = false
is_fault (Err (Full len)) = false
is_fault (Err Reopen) = false
is_fault (Err NotStarted) = false
is_fault (Err OneDisk) = false
is_fault (Err (Spent count)) = false
is_fault (Err OutOfMemory) = false
