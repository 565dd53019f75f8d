-- Turn admission: one actor's open turns, its queue of waiting calls, and its holds.
-- From the description of turns and reentrancy in Dapr's "Actor runtime features"; the queue's length, the
-- depth's range, polls, holds and moved calls are own additions.
use Rattle.std.specs.Prelude.{◌≡◌, ℕ, ◌+◌, ◌-◌, Bool, true, false, ◌&&◌, ◌||◌, ◌==◌, nat_lt, if◌then◌else◌, List, [], ◌∷◌, ◌++◌, length, bytes_eq, Option, None, Some, is_some, option_map}
use Rattle.std.specs.declared.result.Result.{Result}
use Rattle.std.specs.declared.result.Result.TheVariants.{Ok, Err}
use Rattle.turn_core.specs.declared.cell.Turn.{Turn}
use Rattle.turn_core.specs.declared.cell.Waiter.{Waiter}
use Rattle.turn_core.specs.declared.answer.Asked.{Asked}
use Rattle.turn_core.specs.declared.answer.Asked.TheVariants as asked
use Rattle.turn_core.specs.declared.answer.CellError.{CellError}
use Rattle.turn_core.specs.declared.answer.CellError.TheVariants as refused
use Rattle.turn_core.specs.declared.answer.CellEnd.{CellEnd}
use Rattle.turn_core.specs.declared.answer.CellEnd.TheVariants as ending
use Rattle.turn_core.specs.declared.answer.CellPoll.{CellPoll}
use Rattle.turn_core.specs.declared.answer.CellPoll.TheVariants as polled

-- What contracts see of a cell. At depth 0 reentrancy is off.
pub record CellState : Type 0 where
  pub depth : ℕ
  pub turns : List Turn
  pub queue : List Waiter
  pub holds : ℕ

abbrev pub longest_queue : ℕ
longest_queue = 1024

-- the upper end of the depth's range
abbrev pub greatest_depth : ℕ
greatest_depth = 1024

abbrev pub new_cell : ℕ → CellState
new_cell depth = record { depth = depth; turns = []; queue = []; holds = 0 }

abbrev pub same_chain : Option (List ℕ) → Option (List ℕ) → Bool
same_chain None None = true
same_chain None (Some b) = false
same_chain (Some a) None = false
same_chain (Some a) (Some b) = bytes_eq a b

abbrev pub is_free : CellState → Bool
is_free c = length c.turns == 0

-- whether a turn is open and the first one carries this chain
abbrev pub is_first_chain : List Turn → Option (List ℕ) → Bool
is_first_chain [] chain = false
is_first_chain (t ∷ ts) chain = same_chain t.chain chain

-- whether reentrancy is on and the open turns carry this chain, however many they are
abbrev pub is_open_chain : CellState → Option (List ℕ) → Bool
is_open_chain c chain = nat_lt 0 c.depth && is_first_chain c.turns chain

-- at depth 0 the chain of a call is ignored
abbrev pub kept_chain : CellState → Option (List ℕ) → Option (List ℕ)
kept_chain c chain = if c.depth == 0 then None else chain

abbrev pub has_turn : ℕ → List Turn → Bool
has_turn call [] = false
has_turn call (t ∷ ts) = (call == t.call) || has_turn call ts

abbrev pub without_turn : ℕ → List Turn → List Turn
without_turn call [] = []
without_turn call (t ∷ ts) = if call == t.call then ts else t ∷ without_turn call ts

abbrev pub waiter_of : ℕ → List Waiter → Option Waiter
waiter_of call [] = None
waiter_of call (w ∷ ws) = if call == w.call then Some w else waiter_of call ws

-- the call's place in the whole queue, from 1
abbrev pub place_of : ℕ → List Waiter → ℕ
place_of call [] = 1
place_of call (w ∷ ws) = if call == w.call then 1 else 1 + place_of call ws

abbrev pub without_waiter : ℕ → List Waiter → List Waiter
without_waiter call [] = []
without_waiter call (w ∷ ws) = if call == w.call then ws else w ∷ without_waiter call ws

-- the first call that isn't moved, and the queue without it
abbrev pub first_unmoved : List Waiter → Option Waiter
first_unmoved [] = None
first_unmoved (w ∷ ws) = if w.moved then first_unmoved ws else Some w

abbrev pub without_first_unmoved : List Waiter → List Waiter
without_first_unmoved [] = []
without_first_unmoved (w ∷ ws) = if w.moved then w ∷ without_first_unmoved ws else ws

abbrev pub unmoved : List Waiter → ℕ
unmoved [] = 0
unmoved (w ∷ ws) = if w.moved then unmoved ws else 1 + unmoved ws

abbrev pub all_moved : List Waiter → List Waiter
all_moved [] = []
all_moved (w ∷ ws) = record w { moved = true } ∷ all_moved ws

abbrev pub with_turn : CellState → ℕ → Option (List ℕ) → CellState
with_turn c call chain = record c { turns = c.turns ++ record { call = call; chain = chain } ∷ [] }

abbrev pub with_waiter : CellState → ℕ → Option (List ℕ) → CellState
with_waiter c call chain = record c { queue = c.queue ++ record { call = call; chain = chain; moved = false } ∷ [] }

-- the cell after a call on it, and what the call answers
pub record AskStep : Type 0 where
  pub cell : CellState
  pub answer : Result Asked CellError

-- The call begins at once if its chain is the open one and the depth allows it, or if no turn is open and a new
-- chain may begin. Otherwise it is refused for its depth or for the queue's length, or it joins the queue.
abbrev pub admit_call : CellState → ℕ → Option (List ℕ) → Bool → AskStep
admit_call c call chain may_begin =
    let kept = kept_chain c chain in
    if is_open_chain c kept then (
    if nat_lt (length c.turns) c.depth then record { cell = with_turn c call kept; answer = Ok asked.Begun } else
    record { cell = c; answer = Err (refused.Depth (length c.turns)) }
    ) else (
    if is_free c && may_begin then record { cell = with_turn c call kept; answer = Ok asked.Begun } else (
    if nat_lt (length c.queue) longest_queue then record { cell = with_waiter c call kept; answer = Ok (asked.Waits (length c.queue + 1)) } else
    record { cell = c; answer = Err (refused.QueueFull (length c.queue)) }
    )
    )

-- the turn of the call that begins, if there is one
abbrev pub begun_turns : Option Waiter → List Turn
begun_turns None = []
begun_turns (Some w) = record { call = w.call; chain = w.chain } ∷ []

abbrev pub begun_next : CellState → Option Waiter → CellState
begun_next c None = c
begun_next c (Some w) = record c { turns = c.turns ++ record { call = w.call; chain = w.chain } ∷ []; queue = without_first_unmoved c.queue }

-- the first call in the queue that isn't moved begins
abbrev pub cell_begin_next : CellState → CellState
cell_begin_next c = begun_next c (first_unmoved c.queue)

-- the call that begins if the cell is free and a new chain may begin
abbrev pub next_call : Bool → CellState → Option Waiter
next_call may_begin c = if may_begin && is_free c then first_unmoved c.queue else None

abbrev pub call_of : Waiter → ℕ
call_of w = w.call

pub record EndStep : Type 0 where
  pub cell : CellState
  pub answer : CellEnd

-- the cell without the turn of this call
abbrev pub without_call : CellState → ℕ → CellState
without_call c call = record c { turns = without_turn call c.turns }

-- the answer for a call that isn't open, by whether it is in the queue
abbrev pub not_open : Option Waiter → CellEnd
not_open None = ending.AlreadyEnded
not_open (Some w) = ending.StillWaiting

-- An open turn ends, and the next call begins if the cell is then free and a new chain may begin. The end of a
-- call that isn't open changes nothing.
abbrev pub cell_end : CellState → ℕ → Bool → EndStep
cell_end c call may_begin =
    if has_turn call c.turns then
    record { cell = begun_next (without_call c call) (next_call may_begin (without_call c call)); answer = ending.Ended (option_map call_of (next_call may_begin (without_call c call))) }
    else record { cell = c; answer = not_open (waiter_of call c.queue) }

pub record PollStep : Type 0 where
  pub cell : CellState
  pub answer : CellPoll

-- A moved call is removed from the queue; any other poll changes nothing.
abbrev pub poll_waiter : CellState → ℕ → Option Waiter → PollStep
poll_waiter c call None = record { cell = c; answer = polled.Gone }
poll_waiter c call (Some w) =
    if w.moved then record { cell = record c { queue = without_waiter call c.queue }; answer = polled.Moved } else
    record { cell = c; answer = polled.Waits (place_of call c.queue) }

abbrev pub cell_poll : CellState → ℕ → PollStep
cell_poll c call = if has_turn call c.turns then record { cell = c; answer = polled.Begun } else poll_waiter c call (waiter_of call c.queue)

-- one hold more, and one less if there is one
abbrev pub with_hold : CellState → CellState
with_hold c = record c { holds = c.holds + 1 }

abbrev pub without_hold : CellState → CellState
without_hold c = record c { holds = c.holds - 1 }

-- every call in the queue is marked as moved
abbrev pub with_queue_moved : CellState → CellState
with_queue_moved c = record c { queue = all_moved c.queue }

-- every open turn has ended, and none begins
abbrev pub without_turns : CellState → CellState
without_turns c = record c { turns = [] }

-- the chain of the open turns
abbrev pub chain_of : List Turn → Option (List ℕ)
chain_of [] = None
chain_of (t ∷ ts) = t.chain

-- the calls of the open turns, in the order in which the turns began
abbrev pub turn_calls : List Turn → List ℕ
turn_calls [] = []
turn_calls (t ∷ ts) = t.call ∷ turn_calls ts

-- whether the call is open or in the queue
abbrev pub is_in_cell : ℕ → CellState → Bool
is_in_cell call c = has_turn call c.turns || is_some (waiter_of call c.queue)

-- what an ask gives: the step of the rule, or out of memory with the cell as before
abbrev pub GivesStep : Result Asked CellError → CellState → CellState → AskStep → Type 0
GivesStep (Ok a) old new step = (Ok a ≡ step.answer) × (new ≡ step.cell)
GivesStep (Err (refused.Depth n)) old new step = (Err (refused.Depth n) ≡ step.answer) × (new ≡ step.cell)
GivesStep (Err (refused.QueueFull n)) old new step = (Err (refused.QueueFull n) ≡ step.answer) × (new ≡ step.cell)
GivesStep (Err refused.OutOfMemory) old new step = new ≡ old
