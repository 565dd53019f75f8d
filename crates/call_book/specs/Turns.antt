-- How the code keeps a book: its calls in order of lane and number, each with its turn, which says when it began. Own.
use Rattle.std.specs.Prelude.{◌≡◌, ℕ, ◌<◌, ◌≤◌, Bool, true, false, not, ◌==◌, nat_lt, nat_le, if◌then◌else◌, List, [], ◌∷◌, ◌++◌, length, filter, map, Option, None, Some, option_map}
use Rattle.std.specs.List.{AllByRecursion}
use Rattle.std.specs.declared.cmp.Ordering.{Ordering}
use Rattle.std.specs.Ordering.{nat_cmp, on, then_cmp}
use Rattle.lists_and_limits.specs.Lists.{found}
use Rattle.lists_and_limits.specs.Orders.{AscendBy}
use Rattle.call_book.specs.declared.lane.LaneName.{LaneName}
use Rattle.call_book.specs.declared.lane.CallLane.{CallLane}
use Rattle.call_book.specs.declared.entry.CallStage.{CallStage}
use Rattle.call_book.specs.declared.entry.CallEntry.{CallEntry}
use Rattle.call_book.specs.declared.row.Row.{Row}
use Rattle.call_book.specs.declared.standing.Standing.{Standing}
use Rattle.call_book.specs.declared.standing.Standing.TheVariants as standings
use Rattle.call_book.specs.declared.standing.Room.{Room}
use Rattle.call_book.specs.declared.standing.Room.TheVariants as rooms
use Rattle.call_book.specs.Lanes.{lane_cmp}
use Rattle.call_book.specs.Entries.{is_done, at_call, is_at, is_in, at_stage, first_done, new_entry, without_call, without_lane}
use Rattle.call_book.specs.Book.{most_lanes, most_calls}

-- ---- rows in order of lane and number

abbrev pub place : Row → LaneName × ℕ
place r = (r.entry.lane, r.entry.number)

-- by lane, then by number
abbrev pub place_cmp : LaneName × ℕ → LaneName × ℕ → Ordering
place_cmp = then_cmp (on (λ (p : LaneName × ℕ). p.0) lane_cmp) (on (λ (p : LaneName × ℕ). p.1) nat_cmp)

abbrev pub row_cmp : Row → Row → Ordering
row_cmp a b = place_cmp (place a) (place b)

-- how a row compares with a lane
abbrev pub in_lane : LaneName → Row → Ordering
in_lane name r = lane_cmp r.entry.lane name

-- lanes in order of their names
abbrev pub lane_order : CallLane → CallLane → Ordering
lane_order a b = lane_cmp a.name b.name

-- ---- the calls in order of their turns

-- puts a row before those with a later turn
abbrev pub put_turn : Row → List Row → List Row
put_turn r [] = r ∷ []
put_turn r (x ∷ xs) = if nat_le r.turn x.turn then r ∷ x ∷ xs else x ∷ put_turn r xs

abbrev pub by_turn : List Row → List Row
by_turn [] = []
by_turn (x ∷ xs) = put_turn x (by_turn xs)

abbrev pub entries_of : List Row → List CallEntry
entries_of rows = map (λ (r : Row). r.entry) (by_turn rows)

-- ---- the row with the earliest turn of those whose call is done

-- whether there is a first turn, and it is not after the second one, if there is one
abbrev pub is_first : Option ℕ → Option ℕ → Bool
is_first None b = false
is_first (Some a) None = true
is_first (Some a) (Some b) = nat_le a b

-- the earlier of two turns
abbrev pub sooner : Option ℕ → Option ℕ → Option ℕ
sooner a b = if is_first a b then a else b

abbrev pub turn_in : Option Row → Option ℕ
turn_in found = option_map (λ (r : Row). r.turn) found

-- the row with the earlier turn, and of two with the same turn the first one
abbrev pub first_in : Option Row → Option Row → Option Row
first_in a b = if is_first (turn_in a) (turn_in b) then a else b

-- a row whose call is done
abbrev pub done_row : Row → Option Row
done_row r = if is_done r.entry.stage then Some r else None

abbrev pub first_row : List Row → Option Row
first_row [] = None
first_row (x ∷ xs) = first_in (done_row x) (first_row xs)

-- its turn
abbrev pub first_turn : List Row → Option ℕ
first_turn rows = turn_in (first_row rows)

-- ---- what the code keeps

-- Lanes are in order, each name once, and they were counted.
pub record AreCountedLanes (lanes : List CallLane) (count : ℕ) : Type 0 where
  pub order : AscendBy (λ (l : CallLane). l.name) lane_cmp lanes
  pub number : count ≡ length lanes
  pub limit : count ≤ 4096

-- Rows are in order, each lane and number once, and they were counted.
pub record AreCountedRows (rows : List Row) (count : ℕ) : Type 0 where
  pub order : AscendBy place place_cmp rows
  pub number : count ≡ length rows
  pub limit : count ≤ 4096

-- the turn of each row is before this one
abbrev pub AreEarlier : ℕ → List Row → Type 0
AreEarlier next rows = AllByRecursion (λ (r : Row). r.turn < next) rows

-- the row of a lane and a number
abbrev pub at_row : LaneName → ℕ → Row → Ordering
at_row name number r = at_call name number r.entry

abbrev pub row_at : LaneName → ℕ → List Row → Option Row
row_at name number rows = found (at_row name number) rows

abbrev pub rows_without : (CallEntry → Bool) → List Row → List Row
rows_without goes rows = filter (λ (r : Row). not (goes r.entry)) rows

-- the rows among which a row is put, without those of its lane if the lane is bare
abbrev pub base_rows : Bool → LaneName → List Row → List Row
base_rows true name rows = rows_without (is_in name) rows
base_rows false name rows = rows

-- the rows without the one that makes room
abbrev pub cleared : Room → List Row → List Row
cleared rooms.Free rows = rows
cleared rooms.Full rows = rows
cleared (rooms.Dropping lane number) rows = rows_without (is_at lane number) rows

abbrev pub rows_with_stage : LaneName → ℕ → CallStage → List Row → List Row
rows_with_stage name number stage rows = map (λ (r : Row). record r { entry = at_stage name number stage r.entry }) rows

-- ---- how a lane stands to a boot, and the room for one more call

abbrev pub standing_of : Option CallLane → ℕ → ℕ → Standing
standing_of None count boot = if nat_lt count most_lanes then standings.Bare else standings.LanesFull
standing_of (Some lane) count boot =
    if nat_lt boot lane.boot then standings.Old lane.boot else (
    if lane.boot == boot then standings.Current lane.floor else standings.Bare
    )

abbrev pub room_by : Option CallEntry → Room
room_by None = rooms.Full
room_by (Some e) = rooms.Dropping e.lane e.number

-- the room among these calls
abbrev pub room_of : List CallEntry → Room
room_of entries = if nat_lt (length entries) most_calls then rooms.Free else room_by (first_done entries)

-- the calls among which a call is put, without those of its lane if the lane is bare
abbrev pub base_of : Bool → LaneName → List CallEntry → List CallEntry
base_of true name entries = without_lane name entries
base_of false name entries = entries

-- these calls and a new one, where there is room
abbrev pub added : Room → LaneName → ℕ → List CallEntry → List CallEntry → List CallEntry
added rooms.Full name number base old = old
added rooms.Free name number base old = base ++ new_entry name number ∷ []
added (rooms.Dropping lane its) name number base old = without_call lane its base ++ new_entry name number ∷ []
