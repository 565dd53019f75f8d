-- One turn of the compactions: what is asked of the store, and when the next one is due. Own.
use Rattle.std.specs.Prelude.{◌≡◌, ◌⊎◌, ℕ, ◌+◌, ◌*◌, ◌/◌, Option, None, Some, nat_le, nat_lt, if◌then◌else◌}
use mathlib.Core.List.{IsPrefix}
use Rattle.tx_journal.specs.File.{most_bytes}
use Rattle.tx_journal.specs.declared.error.JournalError.{JournalError}
use Rattle.tx_journal.specs.declared.error.JournalError.TheVariants as errors
use Rattle.group_gate.specs.declared.gate.GroupGate.{GroupGate}
use Rattle.group_gate.specs.Gates.{SeatOf, seen_of, SitsAt, AnsweredIn, SeesLast}
use Rattle.store_core.specs.declared.events.CompactEnd.{CompactEnd}
use Rattle.store_core.specs.declared.events.CompactEnd.TheVariants as ends
use Rattle.fence_rows.specs.Together.{AllowsAll}
use Rattle.fence_rows.specs.declared.event.FencedEvent.{FencedEvent}
use Rattle.fence_rows.specs.declared.event.FencedEvent.TheVariants.{Compact}
use Rattle.fence_rows.specs.declared.event.FencedOutcome.{FencedOutcome}
use Rattle.fence_rows.specs.declared.event.FencedOutcome.TheVariants.{Answer, CompactIs}
use Rattle.store_core.specs.Store.{StoreState}
use Rattle.store_server.specs.declared.compacting.Compaction.{Compaction}
use Rattle.store_server.specs.declared.compacting.Compaction.TheVariants.{Made, Short, Kept, Lost}

-- ---- what came of a compaction

-- the store must be opened again after a fault of its disk, and goes on after any other refusal
abbrev pub came_by : JournalError → Compaction
came_by errors.DiskFault = Lost
came_by errors.Reopen = Lost
came_by error = Kept

abbrev pub came_from : CompactEnd → Compaction
came_from (ends.Compacted rows) = Made rows
came_from (ends.NotNeeded len) = Short len
came_from (ends.Failed error) = came_by error
came_from ends.OutOfMemory = Kept

-- a compaction isn't answered as a command
abbrev pub came_of : FencedOutcome → Compaction
came_of (Answer answer) = Kept
came_of (CompactIs end) = came_from end

-- ---- how long a file has to be

-- the least length of a file that is written anew
abbrev pub usual_least : ℕ
usual_least = 67108864

-- more than any file has
abbrev pub greatest_least : ℕ
greatest_least = 18446744073709551615

-- the lesser of twice so many bytes and the middle between them and the most bytes of a file
abbrev pub grown : ℕ → ℕ
grown len = let middle = (len + most_bytes) / 2 in if nat_lt (len * 2) middle then len * 2 else middle

-- the least length after a compaction that left so many bytes, which is less than a file may have
abbrev pub next_least : ℕ → ℕ
next_least len =
    if nat_le most_bytes len then most_bytes
    else (if nat_lt (grown len) usual_least then usual_least else grown len)

-- ---- a turn

abbrev pub StoreGate : Type 0
StoreGate = GroupGate StoreState FencedEvent FencedOutcome

abbrev pub StoreSeat : Type 0
StoreSeat = SeatOf StoreState FencedEvent FencedOutcome

-- one compaction was asked for at the place, which came to this; or the gate takes no more events
abbrev pub Asks : ℕ → ℕ → ℕ → StoreSeat → StoreSeat → Compaction → Type 0
Asks place least now before after came =
    ((r : FencedOutcome) × (AnsweredIn place (Compact least now) r before after × (came ≡ came_of r))) ⊎ ((came ≡ Lost) × SeesLast before after)

-- the least length after a compaction that was made, by what came of the question for its length
abbrev pub least_by : ℕ → Compaction → Option ℕ
least_by least Lost = None
least_by least (Short len) = Some (next_least len)
least_by least (Made rows) = Some least
least_by least Kept = Some least

-- after one that was made the length of the file is asked for, by a compaction that no file is long enough for
abbrev pub GoesOn : ℕ → ℕ → ℕ → Compaction → StoreSeat → StoreSeat → Option ℕ → Type 0
GoesOn place least now (Made rows) before after next = (again : Compaction) × (Asks place greatest_least now before after again × (next ≡ least_by least again))
GoesOn place least now (Short len) before after next = (after ≡ before) × (next ≡ Some least)
GoesOn place least now Kept before after next = (after ≡ before) × (next ≡ Some least)
GoesOn place least now Lost before after next = (after ≡ before) × (next ≡ None)

-- one compaction with this least length, then what follows from it; there is no next one if the store has lost its disk
abbrev pub AsksTwice : ℕ → ℕ → ℕ → StoreSeat → StoreSeat → Option ℕ → Type 0
AsksTwice place least now before after next =
    (came : Compaction) × (mid : StoreSeat) × (Asks place least now before mid came × GoesOn place least now came mid after next)

-- A seat that has taken a place, and gives it back. What was asked at the place meanwhile is all that the seat's history
-- has in the place's name behind what it had there.
pub record SitsBetween (gate : StoreGate) (place : ℕ) (before sat left after : StoreSeat) : Type 0 where
  pub sits : SitsAt AllowsAll gate place sat
  pub still : SitsAt AllowsAll gate place left
  pub front : IsPrefix (seen_of before) (seen_of sat)
  pub back : seen_of after ≡ seen_of left

-- no place was free, nothing was asked, and the length stays; or at a place a compaction was asked for, and what follows
-- from it
abbrev pub IsTurn : StoreGate → ℕ → ℕ → StoreSeat → StoreSeat → Option ℕ → Type 0
IsTurn gate least now before after next =
    (IsPrefix (seen_of before) (seen_of after) × (next ≡ Some least))
    ⊎ ((place : ℕ) × (sat : StoreSeat) × (left : StoreSeat) × (SitsBetween gate place before sat left after × AsksTwice place least now sat left next))
