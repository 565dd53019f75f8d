-- What stays true of a cell, whatever calls it takes. Own.
use Rattle.std.specs.Prelude.{◌≡◌, ◌≤◌, ◌^◌, ◌+◌, ◌==◌, ℕ, nat_lt, if◌then◌else◌, List, [], ◌∷◌, length, Option, is_some}
pub use Rattle.lists_and_limits.specs.Lists.{In}
use Rattle.turn_core.specs.declared.cell.Turn.{Turn}
use Rattle.turn_core.specs.declared.cell.Waiter.{Waiter}
use Rattle.turn_core.specs.Cell.{CellState, greatest_depth, longest_queue}
use Rattle.turn_core.specs.CellMarks.{most_turns}

-- there is a chain exactly if reentrancy is on
abbrev pub FitsDepth : ℕ → Option (List ℕ) → Type 0
FitsDepth depth chain = is_some chain ≡ nat_lt 0 depth

-- the open turns carry one chain and are within the depth, and each call has a chain exactly if reentrancy is on
pub record IsCellSound (c : CellState) : Type 0 where
  pub one_chain : (t u : Turn) → In t c.turns → In u c.turns → t.chain ≡ u.chain
  pub within : length c.turns ≤ most_turns c.depth
  pub turns_fit : (t : Turn) → In t c.turns → FitsDepth c.depth t.chain
  pub queue_fit : (w : Waiter) → In w c.queue → FitsDepth c.depth w.chain

-- how often a call is among open turns, in a queue, and in a cell
abbrev pub turns_of : ℕ → List Turn → ℕ
turns_of call [] = 0
turns_of call (t ∷ ts) = (if call == t.call then 1 else 0) + turns_of call ts

abbrev pub waiters_of : ℕ → List Waiter → ℕ
waiters_of call [] = 0
waiters_of call (w ∷ ws) = (if call == w.call then 1 else 0) + waiters_of call ws

abbrev pub times_in : ℕ → CellState → ℕ
times_in call c = turns_of call c.turns + waiters_of call c.queue

-- a call is in the cell at most once: its turn is open, or it is in the queue, or neither
abbrev pub HasCallsOnce : CellState → Type 0
HasCallsOnce c = (call : ℕ) → times_in call c ≤ 1

-- also, no call is in the cell twice, and the depth, the queue and the holds are in their ranges
pub record IsCellKept (c : CellState) : Type 0 where
  pub sound : IsCellSound c
  pub once : HasCallsOnce c
  pub depth_fits : c.depth ≤ greatest_depth
  pub queue_fits : length c.queue ≤ longest_queue
  pub holds_fit : c.holds ≤ 2 ^ 62
