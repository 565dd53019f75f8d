-- Two files, of which one is live, and what a crash leaves of both: own.
use Rattle.std.specs.Prelude.{◌≡◌, ◌≤◌, ◌⊎◌, ℕ, Bool, not, ◌&&◌, ◌||◌, List, [], ◌∷◌, ◌++◌, length, take, drop, Option, Some, None, Result, Ok, Err, nat_lt, ◌==◌, if◌then◌else◌}
use Rattle.std.specs.Int.{w64, from_be_bytes, to_be_bytes}
use Rattle.disk_model.specs.Disk.{DiskState}
use Rattle.disk_model.specs.Crash.{LeavesOnly, Since}
use Rattle.tx_journal.specs.declared.format.Format.{Format}
use Rattle.tx_journal.specs.declared.format.Format.TheVariants.{One, Two}
use Rattle.tx_journal.specs.File.{most_bytes, same_bytes, is_made, is_known, Image, file_payloads, file_image}

-- how the payload of a Generation begins: the moment 0, the kind 128
abbrev pub generation_kind : List ℕ
generation_kind = 0 ∷ 0 ∷ 0 ∷ 0 ∷ 0 ∷ 0 ∷ 0 ∷ 0 ∷ 128 ∷ []

-- the first payload of a compacted file: moment and kind, and the number
abbrev pub generation_row : ℕ → List ℕ
generation_row number = generation_kind ++ to_be_bytes w64 number

-- the payload is a Generation
abbrev pub is_generation : List ℕ → Bool
is_generation payload = length payload == 17 && same_bytes (take 9 payload) generation_kind

-- its number
abbrev pub generation_in : List ℕ → Option ℕ
generation_in payload = if is_generation payload then Some (from_be_bytes w64 (drop 9 payload)) else None

-- the number of the first payload, if that is a Generation
abbrev pub first_generation : List (List ℕ) → Option ℕ
first_generation [] = None
first_generation (payload ∷ payloads) = generation_in payload

-- the payloads without it
abbrev pub without_generation : List (List ℕ) → List (List ℕ)
without_generation [] = []
without_generation (payload ∷ payloads) = if is_generation payload then payloads else payload ∷ payloads

-- the same, from the first record's 22 bytes: its gate, its length and its payload
abbrev pub generation_at : List ℕ → Option ℕ
generation_at front =
    if length front == 22 && same_bytes (take 14 front) (1 ∷ 0 ∷ 0 ∷ 0 ∷ 17 ∷ generation_kind) then Some (from_be_bytes w64 (drop 14 front)) else None

-- the Generation of a made file, from its first record alone
abbrev pub file_generation : List ℕ → Option ℕ
file_generation file = if is_made file && is_known Two (take 7 (drop 1 file)) then generation_at (take 22 (drop 8 file)) else None

-- the number by which files are compared; it is 0 for a file without a Generation
abbrev pub number : Option ℕ → ℕ
number None = 0
number (Some n) = n

-- the second file is live if it is made, and the first isn't or has a smaller number
abbrev pub is_second_live : List ℕ → List ℕ → Bool
is_second_live first second = is_made second && (not (is_made first) || nat_lt (number (file_generation first)) (number (file_generation second)))

-- the live one of two files
abbrev pub live_file : List ℕ → List ℕ → List ℕ
live_file first second = if is_second_live first second then second else first

-- the payloads of the live file, with the Generation, or the offset at which it is damaged
abbrev pub live_payloads : List ℕ → List ℕ → Result (List (List ℕ)) ℕ
live_payloads first second = file_payloads Two (live_file first second)

-- the rows that were read, without the Generation
abbrev pub rows_of : Result (List (List ℕ)) ℕ → Result (List (List ℕ)) ℕ
rows_of (Ok payloads) = Ok (without_generation payloads)
rows_of (Err offset) = Err offset

-- the image of a pair: the payloads of its live file without the Generation
abbrev pub pair_payloads : List ℕ → List ℕ → Result (List (List ℕ)) ℕ
pair_payloads first second = rows_of (live_payloads first second)

-- the disks of a journal: one, or the first and the second of a pair
pub record Files : Type 0 where
  pub first : DiskState
  pub second : Option DiskState

-- what the bytes that reads give stand for
abbrev pub read_both : DiskState → Option DiskState → Result Image ℕ
read_both first None = file_image One first.bytes
read_both first (Some second) = file_image Two (live_file first.bytes second.bytes)

-- the same for the files of a journal
abbrev pub read_files : Files → Result Image ℕ
read_files files = read_both files.first files.second

-- the bytes of the live file
abbrev pub live_bytes : DiskState → Option DiskState → List ℕ
live_bytes first None = first.bytes
live_bytes first (Some second) = live_file first.bytes second.bytes

-- a claim about what files stand for
abbrev pub Claim : Type 1
Claim = Result Image ℕ → Type 0

-- P holds of what the file stands for, and the file is no longer than a journal takes
abbrev pub ReadsAs : Claim → Format → List ℕ → Type 0
ReadsAs P newest file = P (file_image newest file) × (length file ≤ most_bytes)

-- whatever a crash may leave now of the files opens as P says; the live one is no longer than a journal takes
abbrev pub LeavesBoth : Claim → DiskState → Option DiskState → Type 0
LeavesBoth P first None = LeavesOnly (ReadsAs P One) first.instant
LeavesBoth P first (Some second) = LeavesOnly (λ f. LeavesOnly (λ g. ReadsAs P Two (live_file f g)) second.instant) first.instant

-- the same for the files of a journal
abbrev pub LeavesOpened : Claim → Files → Type 0
LeavesOpened P files = LeavesBoth P files.first files.second

-- Whatever a crash may have left at any moment since then opens as P says. The disks have no common clock, so each
-- moment of one goes with each of the other.
abbrev pub SinceBoth : Claim → DiskState → Option DiskState → DiskState → Option DiskState → Type 0
SinceBoth P first None first_new None = Since (ReadsAs P One) first first_new
SinceBoth P first None first_new (Some second_new) = ⊥
SinceBoth P first (Some second) first_new None = ⊥
SinceBoth P first (Some second) first_new (Some second_new) = Since (λ f. Since (λ g. ReadsAs P Two (live_file f g)) second second_new) first first_new

-- the same for the files of a journal
abbrev pub SinceOpened : Claim → Files → Files → Type 0
SinceOpened P old new = SinceBoth P old.first old.second new.first new.second

-- the files stand for this format and these payloads, and so does whatever a crash may leave now; the live one is no
-- longer than a journal takes
pub record Holds (held : Image) (files : Files) : Type 0 where
  pub reads : read_files files ≡ Ok held
  pub small : length (live_bytes files.first files.second) ≤ most_bytes
  pub leaves : LeavesOpened (λ r. r ≡ Ok held) files

-- what the files stood for
abbrev pub IsJust : Image → Claim
IsJust held r = r ≡ Ok held

-- this or that
abbrev pub IsEither : Image → Image → Claim
IsEither held other r = (r ≡ Ok held) ⊎ (r ≡ Ok other)
