-- Cells in slots: places name the slot of each actor's cell, and an index the slot of each call's cell. Own.
use Rattle.std.specs.Prelude.{◌≡◌, ℕ, Bool, true, false, not, ◌&&◌, ◌||◌, ◌==◌, ◌-◌, ◌^◌, min, max, if◌then◌else◌, List, [], ◌∷◌, ◌++◌, length, Option, None, Some, is_some, option_map, slice_index_or}
use Rattle.std.specs.declared.result.Result.{Result}
use Rattle.std.specs.declared.result.Result.TheVariants.{Ok, Err}
use Rattle.actor_names.specs.declared.actor_key.ActorKey.{ActorKey}
use Rattle.turn_core.specs.declared.answer.Asked.{Asked}
use Rattle.turn_core.specs.declared.answer.Asked.TheVariants as asked
use Rattle.turn_core.specs.declared.answer.CellError.{CellError}
use Rattle.turn_core.specs.declared.answer.CellError.TheVariants as deny
use Rattle.turn_core.specs.declared.answer.CellEnd.{CellEnd}
use Rattle.turn_core.specs.declared.answer.CellEnd.TheVariants as ending
use Rattle.turn_core.specs.Cell.{is_in_cell, AskStep, cell_end, next_call, begun_next, without_turns, with_queue_moved, turn_calls, unmoved}
use Rattle.turn_core.specs.declared.cell.Waiter.{Waiter}
use Rattle.turn_core.specs.CellSound.{In}
use Rattle.part_model.specs.declared.actor_cell.ActorCell.{ActorCell}
use Rattle.part_model.specs.Cells.{cell_at, keep_cell, is_kept, total_calls}
use Rattle.part_model.specs.Order.{AreInOrder}

-- the slot that is noted under a call
abbrev pub slot_of : List (ℕ × ℕ) → ℕ → Option ℕ
slot_of [] call = None
slot_of (e ∷ es) call = if call == e.0 then Some e.1 else slot_of es call

-- whether a call is one of these
abbrev pub is_among : ℕ → List ℕ → Bool
is_among call [] = false
is_among call (n ∷ ns) = (call == n) || is_among call ns

-- the cell of a slot before others, if there is one
abbrev pub with_found : Option ActorCell → List ActorCell → List ActorCell
with_found None cs = cs
with_found (Some c) cs = c ∷ cs

-- the cells in the slots of these places
abbrev pub cells_in : (ℕ → Option ActorCell) → List (ActorKey × ℕ) → List ActorCell
cells_in at [] = []
cells_in at (p ∷ ps) = with_found (at p.1) (cells_in at ps)

-- what contracts see: the cells in order of key, and what each slot has, from slot 0 on
pub record CellsView : Type 0 where
  pub cells : List ActorCell
  pub slots : List (Option ActorCell)

-- the cell in a slot
abbrev pub cell_of_slot : CellsView → ℕ → Option ActorCell
cell_of_slot v s = slice_index_or v.slots s None

-- whether the actor is active and isn't closing
abbrev pub is_awake : ActorCell → Bool
is_awake c = c.active && not c.closing

-- the cell is kept, and only an active actor that isn't closing has open turns
pub record IsSettled (c : ActorCell) : Type 0 where
  pub kept : is_kept c ≡ true
  pub awake : is_awake c ≡ false → c.inner.turns ≡ []

-- Each place has a cell of its key, and each cell a place; each call that is open or waits has one entry of the index,
-- which has no other; and so many calls there are.
pub record AreSlotsKept (at : ℕ → Option ActorCell) (places : List (ActorKey × ℕ)) (look : ℕ → Option ℕ) (count : ℕ) : Type 0 where
  pub placed : (p : ActorKey × ℕ) → In p places → (c : ActorCell) × (at p.1 ≡ Some c) × (c.key ≡ p.0)
  pub held : (s : ℕ) (c : ActorCell) → at s ≡ Some c → In (c.key, s) places
  pub in_order : AreInOrder (cells_in at places)
  pub found : (s call : ℕ) (c : ActorCell) → at s ≡ Some c → is_in_cell call c.inner ≡ true → look call ≡ Some s
  pub only : (s call : ℕ) → look call ≡ Some s → (c : ActorCell) × (at s ≡ Some c) × (is_in_cell call c.inner ≡ true)
  pub counted : count ≡ total_calls (cells_in at places)
  pub settled : (s : ℕ) (c : ActorCell) → at s ≡ Some c → IsSettled c

-- the cell stands in this slot
pub record IsFoundAt (v : CellsView) (s : ℕ) (c : ActorCell) : Type 0 where
  pub at : cell_of_slot v s ≡ Some c
  pub here : cell_at v.cells c.key ≡ Some c
  pub in_order : AreInOrder v.cells
  pub settled : IsSettled c

-- ---- calls

-- An ask that is accepted changes its cell, and a turn that begins makes its actor active. Any other answer changes
-- nothing, and only memory can run out besides.
abbrev pub AsksAt : Result Asked CellError → List ActorCell → List ActorCell → ActorCell → AskStep → Type 0
AsksAt (Ok asked.Begun) old new c step = (Ok asked.Begun ≡ step.answer) × (new ≡ keep_cell old (record c { inner = step.cell; active = true }))
AsksAt (Ok (asked.Waits n)) old new c step = (Ok (asked.Waits n) ≡ step.answer) × (new ≡ keep_cell old (record c { inner = step.cell }))
AsksAt (Err (deny.Depth n)) old new c step = (Err (deny.Depth n) ≡ step.answer) × (new ≡ old)
AsksAt (Err (deny.QueueFull n)) old new c step = (Err (deny.QueueFull n) ≡ step.answer) × (new ≡ old)
AsksAt (Err deny.OutOfMemory) old new c step = new ≡ old

-- the cell after an end of this call
abbrev pub ended_cell : ActorCell → ℕ → Bool → ℕ → ActorCell
ended_cell c call may_begin now = record c { inner = (cell_end c.inner call may_begin).cell; last = max c.last now }

-- an end that ends a turn changes its cell, and any other end nothing
abbrev pub EndsAt : CellEnd → List ActorCell → List ActorCell → ActorCell → Type 0
EndsAt (ending.Ended next) old new x = new ≡ keep_cell old x
EndsAt ending.AlreadyEnded old new x = new ≡ old
EndsAt ending.StillWaiting old new x = new ≡ old

-- the cell after its actor's deactivation: the next call begins if it may, and makes it active again
abbrev pub closed_cell : ActorCell → Bool → ActorCell
closed_cell c may_begin = record c { inner = begun_next c.inner (next_call may_begin c.inner); active = is_some (next_call may_begin c.inner); closing = false }

-- ---- passes over all cells

-- the first cell for which the test holds
abbrev pub first_where : (ActorCell → Bool) → List ActorCell → Option ActorCell
first_where test [] = None
first_where test (c ∷ cs) = if test c then Some c else first_where test cs

-- the least of the numbers of the cells, or 2^64 - 1 if there is no cell
abbrev pub least_of : (ActorCell → ℕ) → List ActorCell → ℕ
least_of f [] = 2 ^ 64 - 1
least_of f (c ∷ cs) = min (f c) (least_of f cs)

-- the lesser of a number and that of the cell of a slot, if there is one
abbrev pub lesser_at : (ActorCell → ℕ) → Option ActorCell → ℕ → ℕ
lesser_at f None n = n
lesser_at f (Some c) n = min n (f c)

-- one for a cell for which the test holds
abbrev pub one_where : (ActorCell → Bool) → ActorCell → ℕ
one_where test c = if test c then 1 else 0

-- the numbers that each cell gives, cell by cell
abbrev pub each_list : (ActorCell → List ℕ) → List ActorCell → List ℕ
each_list g [] = []
each_list g (c ∷ cs) = g c ++ each_list g cs

-- the calls of a cell's open turns
abbrev pub open_calls : ActorCell → List ℕ
open_calls c = turn_calls c.inner.turns

-- every open turn ends where the test holds
abbrev pub late_cell : (ActorCell → Bool) → ℕ → ActorCell → ActorCell
late_cell test now c = if test c then record c { inner = without_turns c.inner; last = max c.last now } else c

abbrev pub late_calls : (ActorCell → Bool) → ActorCell → List ℕ
late_calls test c = if test c then open_calls c else []

-- the call that begins, as a list
abbrev pub next_calls : Option Waiter → List ℕ
next_calls None = []
next_calls (Some w) = w.call ∷ []

-- where the test holds, the next call of a cell that isn't closing begins; elsewhere the waiting calls are moved
abbrev pub begun_cell : ActorCell → Option Waiter → ActorCell
begun_cell c next = record c { inner = begun_next c.inner next; active = c.active || is_some next }

abbrev pub opened_cell : (ActorCell → Bool) → ActorCell → ActorCell
opened_cell own c = if own c then begun_cell c (next_call (not c.closing) c.inner) else record c { inner = with_queue_moved c.inner }

abbrev pub opened_calls : (ActorCell → Bool) → ActorCell → List ℕ
opened_calls own c = if own c then next_calls (next_call (not c.closing) c.inner) else []

abbrev pub opened_moved : (ActorCell → Bool) → ActorCell → ℕ
opened_moved own c = if own c then 0 else unmoved c.inner.queue

abbrev pub late_number : (ActorCell → Bool) → ActorCell → ℕ
late_number test c = if test c then length c.inner.turns else 0

-- what the cell of a slot gives, if there is one
abbrev pub list_at : (ActorCell → List ℕ) → Option ActorCell → List ℕ
list_at g None = []
list_at g (Some c) = g c

abbrev pub number_at : (ActorCell → ℕ) → Option ActorCell → ℕ
number_at h None = 0
number_at h (Some c) = h c

-- a visit of one slot: its cell changes by f, g is appended to a list, and h is counted
pub record IsVisited (f : ActorCell → ActorCell) (g : ActorCell → List ℕ) (h : ActorCell → ℕ) (at at' : ℕ → Option ActorCell) (slot : ℕ) (before after : List ℕ) (n : ℕ) : Type 0 where
  pub cell : at' slot ≡ option_map f (at slot)
  pub others : (m : ℕ) → (m ≡ slot → ⊥) → at' m ≡ at m
  pub listed : after ≡ before ++ list_at g (at slot)
  pub number : n ≡ number_at h (at slot)
