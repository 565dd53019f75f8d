-- What is true of every journal: own.
use Rattle.std.specs.Prelude.{◌≡◌, ◌⊎◌, ◌<◌, ◌≤◌, ◌+◌, ◌^◌, ℕ, Bool, true, false, List, ◌∷◌, Option, Some, None}
use Rattle.disk_model.specs.Disk.{DiskState}
use Rattle.disk_model.specs.Crash.{IsDurable}
use Rattle.tx_journal.specs.declared.format.Format.{Format}
use Rattle.tx_journal.specs.declared.format.Format.TheVariants.{One, Two}
use Rattle.tx_journal.specs.declared.find.Cursor.{Cursor}
use Rattle.tx_journal.specs.File.{longest, most_bytes, is_made, opened}
use Rattle.tx_journal.specs.Pair.{first_generation, file_generation, generation_row, number}
use Rattle.tx_journal.specs.Journal.{IsAtRest, IsSettled}
use Rattle.tx_journal.specs.Compaction.{IsShutFront, MayBeShut}
use Rattle.tx_journal.specs.Calls.{Side, JournalState, next_number, is_alone}

-- by how much the live file's number has to be above the other's: if the numbers are equal, the first is live
abbrev pub margin : Bool → ℕ
margin true = 1
margin false = 0

-- this file isn't the live one if the other has that number
abbrev pub Yields : Bool → ℕ → List ℕ → Type 0
Yields is_second_live n file = (is_made file ≡ false) ⊎ (number (file_generation file) + margin is_second_live ≤ n)

-- The file that isn't live: it has a closed gate, perhaps with rows of a compaction behind it; or it is as an opening
-- or a compaction left it.
abbrev pub Waits : Bool → Option ℕ → Bool → Option ℕ → DiskState → Type 0
Waits is_second_live generation true staged d = IsShutFront d × ((at : ℕ) → staged ≡ Some at → (rows : List (List ℕ)) × IsAtRest Two Two (generation_row (next_number generation) ∷ rows) at (opened d.bytes))
Waits is_second_live generation false staged d = IsDurable d × Yields is_second_live (number generation) d.bytes × MayBeShut d.bytes × (staged ≡ None)

-- the newest format that a journal knows, of one disk or of two
abbrev pub newest_of : Option Side → Format
newest_of None = One
newest_of (Some other) = Two

-- the live file
pub record IsLive (newest format : Format) (generation : Option ℕ) (end : ℕ) (cursor : Cursor) (d : DiskState) : Type 0 where
  pub payloads : List (List ℕ)
  pub settled : IsSettled newest format payloads end cursor d
  pub numbered : newest ≡ Two → first_generation payloads ≡ generation

-- a compaction under way
pub record IsStarted (j : JournalState) (at : ℕ) : Type 0 where
  pub some : 31 ≤ at
  pub few : at ≤ most_bytes
  pub paired : is_alone j.other ≡ false
  pub small : number j.generation < 2 ^ 62

-- what is true of every journal
pub record IsSound (j : JournalState) (cursor : Cursor) (is_shut : Bool) (room : ℕ) : Type 0 where
  pub room_is : room ≡ longest + 6
  pub some : 9 ≤ j.end
  pub few : j.end ≤ most_bytes
  pub started : (at : ℕ) → j.staged ≡ Some at → IsStarted j at
  pub live : j.is_broken ≡ false → (d : DiskState) → j.live.told ≡ Some d → IsLive (newest_of j.other) j.format j.generation j.end cursor d
  pub waits : j.is_broken ≡ false → (side : Side) → j.other ≡ Some side → (d : DiskState) → side.told ≡ Some d → Waits j.is_second_live j.generation is_shut j.staged d
