-- A journal as its callers see it: own.
use Rattle.std.specs.Prelude.{◌≡◌, ◌<◌, ◌≤◌, ℕ, ◌+◌, Bool, true, false, not, ◌&&◌, List, [], ◌∷◌, ◌++◌, length, Option, Some, None, Result, Ok, Err, nat_lt, ◌==◌, if◌then◌else◌}
use Rattle.disk_model.specs.Disk.{DiskState}
use Rattle.disk_model.specs.Crash.{Later}
use Rattle.tx_journal.specs.declared.error.JournalError.{JournalError}
use Rattle.tx_journal.specs.declared.error.JournalError.TheVariants.{DiskFault, Damaged, TooLong, Full, Reopen, NotStarted, OneDisk, Spent, OutOfMemory}
use Rattle.tx_journal.specs.declared.format.Format.{Format}
use Rattle.tx_journal.specs.declared.format.Format.TheVariants.{One, Two}
use Rattle.tx_journal.specs.File.{longest, most_bytes, is_made, opened, file_length, file_payloads, Image, image, with_payload, IsBeingMade}
use Rattle.tx_journal.specs.Journal.{Rises}
use Rattle.tx_journal.specs.Pair.{Files, generation_row, generation_in, without_generation, file_generation, number, live_bytes, read_files, SinceOpened, Holds, IsJust, IsEither}

-- a disk of a journal: its state, if it reports it, and how often it failed
pub record Side : Type 0 where
  pub told : Option DiskState
  pub faults : ℕ

-- The live file and the other one of a pair, which of the two is live, format and Generation of the live file, the
-- offset behind its last gate, the offset where the next row of a compaction under way goes, and whether a call has met
-- a fault.
pub record JournalState : Type 0 where
  pub live : Side
  pub other : Option Side
  pub is_second_live : Bool
  pub format : Format
  pub generation : Option ℕ
  pub end : ℕ
  pub staged : Option ℕ
  pub is_broken : Bool

-- the disks in the order in which the journal got them
abbrev pub first_of : Bool → Side → Option Side → Side
first_of true live (Some other) = other
first_of true live None = live
first_of false live other = live

-- the second one, if there is one
abbrev pub second_of : Bool → Side → Option Side → Option Side
second_of true live (Some other) = Some live
second_of true live None = None
second_of false live other = other

-- the first disk of a journal
abbrev pub first_side : JournalState → Side
first_side j = first_of j.is_second_live j.live j.other

-- its second one
abbrev pub second_side : JournalState → Option Side
second_side j = second_of j.is_second_live j.live j.other

-- what one disk reports
abbrev pub tell_one : Option DiskState → Option Files
tell_one None = None
tell_one (Some d) = Some record { first = d; second = None }

-- what two disks report, if both do
abbrev pub tell_both : Option DiskState → Option DiskState → Option Files
tell_both None second = None
tell_both (Some d) None = None
tell_both (Some d) (Some e) = Some record { first = d; second = Some e }

-- what the disks report, in their order
abbrev pub tell_sides : Side → Option Side → Option Files
tell_sides first None = tell_one first.told
tell_sides first (Some second) = tell_both first.told second.told

-- what the disks of a journal report
abbrev pub told : JournalState → Option Files
told j = tell_sides (first_side j) (second_side j)

-- the count of faults of the disk that isn't live rose, or is at its maximum
abbrev pub OtherRises : Option Side → Option Side → Type 0
OtherRises None new = ⊥
OtherRises (Some old) None = ⊥
OtherRises (Some old) (Some new) = Rises old.faults new.faults

-- it has not fallen
abbrev pub OtherKeeps : Option Side → Option Side → Type 0
OtherKeeps None new = Unit {0}
OtherKeeps (Some old) None = ⊥
OtherKeeps (Some old) (Some new) = old.faults ≤ new.faults

-- there is no second disk
abbrev pub is_alone : Option Side → Bool
is_alone None = true
is_alone (Some other) = false

-- no compaction is under way
abbrev pub is_none : Option ℕ → Bool
is_none None = true
is_none (Some at) = false

-- no further Generation can come
abbrev pub is_last : ℕ → Bool
is_last count = nat_lt 4611686018427387903 count

-- The refusals of an append, in the order in which they are tested; they change nothing.
abbrev pub append_refusal : JournalState → List ℕ → Option JournalError
append_refusal j payload =
    if j.is_broken then Some Reopen
    else if nat_lt longest (length payload) then Some (TooLong (length payload))
    else if nat_lt most_bytes (j.end + 5 + length payload) then Some (Full j.end)
    else None

-- the Generation of the live file after an append: the payload's, if it is the file's first record and a Generation
abbrev pub generation_with : ℕ → Option ℕ → List ℕ → Option ℕ
generation_with end None payload = if end == 9 then generation_in payload else None
generation_with end (Some n) payload = Some n

-- an append that isn't refused: it is done, or the disk failed in it and the journal must be opened again; a
-- compaction is given up
abbrev pub Appends : {T : Type 0} → List ℕ → Result T JournalError → JournalState → JournalState → Type 0
Appends payload (Ok x) old new = (new ≡ record old { live = new.live; end = old.end + 5 + length payload; generation = generation_with old.end old.generation payload; staged = None }) × (old.live.faults ≤ new.live.faults)
Appends payload (Err DiskFault) old new = (new ≡ record old { live = new.live; staged = None; is_broken = true }) × Rises old.live.faults new.live.faults
Appends payload (Err (Damaged offset)) old new = ⊥
Appends payload (Err (TooLong n)) old new = ⊥
Appends payload (Err (Full len)) old new = ⊥
Appends payload (Err Reopen) old new = ⊥
Appends payload (Err NotStarted) old new = ⊥
Appends payload (Err OneDisk) old new = ⊥
Appends payload (Err (Spent count)) old new = ⊥
Appends payload (Err OutOfMemory) old new = ⊥

-- Whatever a crash leaves at any moment of an append stands for the payloads that the journal held, with the new one or
-- without it, and has the same format.
abbrev pub Commits : List ℕ → Files → Files → Type 0
Commits payload old new = (held : Image) → Holds held old → SinceOpened (IsEither held (with_payload payload held)) old new

-- Once it is answered Ok, the journal holds the new one too.
abbrev pub Committed : List ℕ → Files → Files → Type 0
Committed payload old new = (held : Image) → Holds held old → Holds (with_payload payload held) new

-- the payloads that a replay counts: in a pair, those after the Generation
abbrev pub rows_in : Option Side → List (List ℕ) → List (List ℕ)
rows_in None payloads = payloads
rows_in (Some other) payloads = without_generation payloads

-- where a row is among the payloads
abbrev pub place_in : Bool → Option ℕ → ℕ → ℕ
place_in is_pair None index = index
place_in is_pair (Some n) index = if is_pair then index + 1 else index

-- the refusals of the start of a compaction, in the order in which they are tested; they change nothing
abbrev pub start_refusal : JournalState → Option JournalError
start_refusal j =
    if j.is_broken then Some Reopen
    else if is_alone j.other then Some OneDisk
    else if is_last (number j.generation) then Some (Spent (number j.generation))
    else None

-- a start that isn't refused: the other file has its first row, or the disk failed
abbrev pub Starts : {T : Type 0} → Result T JournalError → JournalState → JournalState → Type 0
Starts (Ok x) old new = new ≡ record old { other = new.other; staged = Some 31 }
Starts (Err DiskFault) old new = (new ≡ record old { other = new.other; staged = None; is_broken = true }) × OtherRises old.other new.other
Starts (Err (Damaged offset)) old new = ⊥
Starts (Err (TooLong n)) old new = ⊥
Starts (Err (Full len)) old new = ⊥
Starts (Err Reopen) old new = ⊥
Starts (Err NotStarted) old new = ⊥
Starts (Err OneDisk) old new = ⊥
Starts (Err (Spent count)) old new = ⊥
Starts (Err OutOfMemory) old new = ⊥

-- the refusals of a row, in the order in which they are tested
abbrev pub row_refusal : List ℕ → Option ℕ → Option JournalError
row_refusal payload None = Some NotStarted
row_refusal payload (Some at) =
    if nat_lt longest (length payload) then Some (TooLong (length payload))
    else if nat_lt most_bytes (at + 5 + length payload) then Some (Full at)
    else None

-- the refusals of a row by a journal
abbrev pub add_refusal : JournalState → List ℕ → Option JournalError
add_refusal j payload = if j.is_broken then Some Reopen else row_refusal payload j.staged

-- a row that is too long or has no room makes the journal give the compaction up; the other refusals change nothing
abbrev pub given_up : JournalError → JournalState → JournalState
given_up (TooLong n) j = record j { staged = None }
given_up (Full len) j = record j { staged = None }
given_up DiskFault j = j
given_up (Damaged offset) j = j
given_up Reopen j = j
given_up NotStarted j = j
given_up OneDisk j = j
given_up (Spent count) j = j
given_up OutOfMemory j = j

-- where the next row goes
abbrev pub next_row : Option ℕ → List ℕ → Option ℕ
next_row None payload = None
next_row (Some at) payload = Some (at + 5 + length payload)

-- a row that isn't refused: it is in the other file, or the disk failed
abbrev pub Adds : {T : Type 0} → List ℕ → Result T JournalError → JournalState → JournalState → Type 0
Adds payload (Ok x) old new = new ≡ record old { other = new.other; staged = next_row old.staged payload }
Adds payload (Err DiskFault) old new = (new ≡ record old { other = new.other; staged = None; is_broken = true }) × OtherRises old.other new.other
Adds payload (Err (Damaged offset)) old new = ⊥
Adds payload (Err (TooLong n)) old new = ⊥
Adds payload (Err (Full len)) old new = ⊥
Adds payload (Err Reopen) old new = ⊥
Adds payload (Err NotStarted) old new = ⊥
Adds payload (Err OneDisk) old new = ⊥
Adds payload (Err (Spent count)) old new = ⊥
Adds payload (Err OutOfMemory) old new = ⊥

-- whatever a crash leaves at any moment of a start or a row stands for what the journal held
abbrev pub Keeps : Files → Files → Type 0
Keeps old new = (held : Image) → Holds held old → SinceOpened (IsJust held) old new

-- the journal holds what it held
abbrev pub Kept : Files → Files → Type 0
Kept old new = (held : Image) → Holds held old → Holds held new

-- what the file that isn't live would stand for if its gate were open
abbrev pub staged_in : Bool → DiskState → Option DiskState → Result (List (List ℕ)) ℕ
staged_in is_second_live first None = Err 0
staged_in true first (Some second) = file_payloads Two (opened first.bytes)
staged_in false first (Some second) = file_payloads Two (opened second.bytes)

-- the same of the files of a journal
abbrev pub staged_payloads : Bool → Files → Result (List (List ℕ)) ℕ
staged_payloads is_second_live files = staged_in is_second_live files.first files.second

-- the other file has one row, the Generation of this number
abbrev pub HasBegun : Bool → ℕ → Files → Files → Type 0
HasBegun is_second_live number old new = staged_payloads is_second_live new ≡ Ok (generation_row number ∷ [])

-- it has one more row
abbrev pub HasRow : Bool → List ℕ → Files → Files → Type 0
HasRow is_second_live payload old new = (rows : List (List ℕ)) → staged_payloads is_second_live old ≡ Ok rows → staged_payloads is_second_live new ≡ Ok (rows ++ payload ∷ [])

-- the refusals of the end of a compaction, in the order in which they are tested; they change nothing
abbrev pub end_refusal : JournalState → Option JournalError
end_refusal j =
    if j.is_broken then Some Reopen
    else if is_none j.staged then Some NotStarted
    else None

-- the number above that of the live file
abbrev pub next_number : Option ℕ → ℕ
next_number generation = number generation + 1

-- the end of a compaction that isn't refused: the other file is live, or the disk failed
abbrev pub Turns : {T : Type 0} → Result T JournalError → JournalState → JournalState → Type 0
Turns (Ok x) old new =
    (new ≡ record { live = new.live; other = Some old.live; is_second_live = not old.is_second_live; format = Two; generation = Some (next_number old.generation); end = new.end; staged = None; is_broken = false }) × (old.staged ≡ Some new.end)
Turns (Err DiskFault) old new = (new ≡ record old { other = new.other; staged = None; is_broken = true }) × OtherRises old.other new.other
Turns (Err (Damaged offset)) old new = ⊥
Turns (Err (TooLong n)) old new = ⊥
Turns (Err (Full len)) old new = ⊥
Turns (Err Reopen) old new = ⊥
Turns (Err NotStarted) old new = ⊥
Turns (Err OneDisk) old new = ⊥
Turns (Err (Spent count)) old new = ⊥
Turns (Err OutOfMemory) old new = ⊥

-- whatever a crash leaves at any moment of the end of a compaction stands for what the journal held, or for the rows in
-- the second format
abbrev pub Replaces : Bool → Files → Files → Type 0
Replaces is_second_live old new = (held : Image) (rows : List (List ℕ)) → Holds held old → staged_payloads is_second_live old ≡ Ok rows → SinceOpened (IsEither held (image Two rows)) old new

-- once it is answered Ok, the journal holds the rows in the second format
abbrev pub Replaced : Bool → Files → Files → Type 0
Replaced is_second_live old new = (rows : List (List ℕ)) → staged_payloads is_second_live old ≡ Ok rows → Holds (image Two rows) new

-- an opening makes a file if that is asked for and none is made
abbrev pub is_making : Bool → DiskState → Option DiskState → Bool
is_making create first None = create && not (is_made first.bytes)
is_making create first (Some second) = create && not (is_made first.bytes) && not (is_made second.bytes)

-- what an opening finds: no payloads if it makes the first file, else what the live one stands for
abbrev pub FindsIn : Bool → Files → Image → Type 0
FindsIn true files found = found.payloads ≡ []
FindsIn false files found = read_files files ≡ Ok found

-- an opening that is done; the live file that it found wasn't longer than a journal takes
abbrev pub OpensFiles : Bool → Files → Files → Type 0
OpensFiles create old new = (held : Image) × FindsIn (is_making create old.first old.second) old held × Holds held new × (length (live_bytes old.first old.second) ≤ most_bytes)

-- what a crash in an opening leaves: if the first file is being made, one that isn't made or has no records; else the
-- files as they were read
abbrev pub MayBeLeftIn : Bool → DiskState → Option DiskState → List ℕ → Option (List ℕ) → Type 0
MayBeLeftIn true first None f None = IsBeingMade One first.bytes f
MayBeLeftIn true first (Some second) f (Some g) = IsBeingMade Two first.bytes f × (g ≡ second.bytes)
MayBeLeftIn false first None f None = f ≡ first.bytes
MayBeLeftIn false first (Some second) f (Some g) = (f ≡ first.bytes) × (g ≡ second.bytes)
MayBeLeftIn making first None f (Some g) = ⊥
MayBeLeftIn making first (Some second) f None = ⊥

-- P holds at all later moments: of one disk, or of two, each moment of the first with each of the second
abbrev pub LaterBoth : (List ℕ → Option (List ℕ) → Type 0) → DiskState → Option DiskState → DiskState → Option DiskState → Type 0
LaterBoth P first None first_new None = Later (λ f. P f None) first first_new
LaterBoth P first (Some second) first_new (Some second_new) = Later (λ f. Later (λ g. P f (Some g)) second second_new) first first_new
LaterBoth P first None first_new (Some second_new) = ⊥
LaterBoth P first (Some second) first_new None = ⊥

-- what a crash may leave once the first syncs of an opening are done
abbrev pub KeepsFiles : Bool → Files → Files → Type 0
KeepsFiles create old new = LaterBoth (MayBeLeftIn (is_making create old.first old.second) old.first old.second) old.first old.second new.first new.second

-- the cause of a refused opening
abbrev pub RefusesFiles : Bool → JournalError → Files → Type 0
RefusesFiles create DiskFault files = Unit {0}
RefusesFiles create (Damaged offset) files = (is_making create files.first files.second ≡ false) × (read_files files ≡ Err offset)
RefusesFiles create (TooLong n) files = ⊥
RefusesFiles create (Full len) files = (len ≡ length (live_bytes files.first files.second)) × (most_bytes < len)
RefusesFiles create Reopen files = ⊥
RefusesFiles create NotStarted files = ⊥
RefusesFiles create OneDisk files = ⊥
RefusesFiles create (Spent count) files = ⊥
RefusesFiles create OutOfMemory files = Unit {0}

-- the Generation that a pair's journal has is the one in its live file
abbrev pub IsNumbered : JournalState → Type 0
IsNumbered j = j.is_broken ≡ false → is_alone j.other ≡ false → (d : DiskState) → j.live.told ≡ Some d → j.generation ≡ file_generation d.bytes

-- if an opening makes a file, it makes it in this format
abbrev pub MakesFormat : Format → Bool → Option Files → JournalState → Type 0
MakesFormat format create before j = (files : Files) → before ≡ Some files → is_making create files.first files.second ≡ true → j.format ≡ format

-- a journal that was just opened
abbrev pub IsOpened : JournalState → Type 0
IsOpened j = (j.is_broken ≡ false) × (j.staged ≡ None)

-- a journal that has met no fault ends where a file of the payloads that it holds does
abbrev pub IsMeasured : JournalState → Type 0
IsMeasured j = j.is_broken ≡ false → (files : Files) → told j ≡ Some files → (held : Image) → Holds held files → j.end ≡ file_length held.payloads

-- the format of what it holds is its own
abbrev pub HoldsFormat : JournalState → Type 0
HoldsFormat j = j.is_broken ≡ false → (files : Files) → told j ≡ Some files → (held : Image) → Holds held files → held.format ≡ j.format

-- this disk's count of faults has not fallen since it was the number
abbrev pub KeepsCount : ℕ → Option Side → Type 0
KeepsCount before None = Unit {0}
KeepsCount before (Some side) = before ≤ side.faults
