-- Overlapping turns, defined on the whole list of began and ended marks of one actor, apart from the rule by which
-- a cell admits calls; and the marks that each call of a cell adds. Own.
use Rattle.std.specs.Prelude.{◌≡◌, ◌<◌, ◌≤◌, ◌^◌, max, ℕ, Bool, false, if◌then◌else◌, List, [], ◌∷◌, ◌++◌, length, take, slice_get, Option, None, Some, IsSome}
use Rattle.std.specs.declared.result.Result.{Result}
use Rattle.std.specs.declared.result.Result.TheVariants.{Ok, Err}
use Rattle.turn_core.specs.declared.cell.Turn.{Turn}
use Rattle.turn_core.specs.declared.cell.Waiter.{Waiter}
use Rattle.turn_core.specs.declared.answer.Asked.{Asked}
use Rattle.turn_core.specs.declared.answer.Asked.TheVariants as asked
use Rattle.turn_core.specs.declared.answer.CellError.{CellError}
use Rattle.turn_core.specs.Cell.{CellState, kept_chain, has_turn, without_turn, first_unmoved, is_in_cell, next_call, without_call, admit_call, cell_end, cell_poll, cell_begin_next, with_hold, without_hold, with_queue_moved, without_turns}

-- a call's turn began with this chain, or ended
pub data TurnMark : Type 0 where
  Began : (call : ℕ) → (chain : Option (List ℕ)) → TurnMark
  Ended : (call : ℕ) → TurnMark

-- Two turns overlap if each began before the other ended; a turn that has no end mark never ended.
-- Here the turn of call `a` begins at place i and that of call `b` at the later place j.
pub record TurnsOverlap (marks : List TurnMark) (i j a b : ℕ) (x y : Option (List ℕ)) : Type 0 where
  pub first : slice_get marks i ≡ Some (Began a x)
  pub second : slice_get marks j ≡ Some (Began b y)
  pub in_order : i < j
  pub not_over : (p : ℕ) → i < p → p < j → slice_get marks p ≡ Some (Ended a) → ⊥

-- the turns that are open after these marks, if `turns` are open before them
abbrev pub open_after : List Turn → List TurnMark → List Turn
open_after turns [] = turns
open_after turns (Began call chain ∷ marks) = open_after (turns ++ record { call = call; chain = chain } ∷ []) marks
open_after turns (Ended call ∷ marks) = open_after (without_turn call turns) marks

-- The greatest number of turns that are open at once: the depth, or one if reentrancy is off.
abbrev pub most_turns : ℕ → ℕ
most_turns depth = max depth 1

-- Turns never mix: two that overlap carry the same chain, and reentrancy is on; and there are never more turns
-- open at once than the depth allows.
pub record TurnsIsolated (depth : ℕ) (marks : List TurnMark) : Type 0 where
  pub one_chain : (i j a b : ℕ) (x y : Option (List ℕ)) → TurnsOverlap marks i j a b x y → (x ≡ y) × IsSome x × (0 < depth)
  pub within_depth : (n : ℕ) → length (open_after [] (take n marks)) ≤ most_turns depth

-- ---- what each call of a cell adds to the marks, from the state before it

abbrev pub asked_marks : ℕ → Option (List ℕ) → Result Asked CellError → List TurnMark
asked_marks call chain (Ok asked.Begun) = Began call chain ∷ []
asked_marks call chain (Ok (asked.Waits place)) = []
asked_marks call chain (Err e) = []

-- the turn of a call that is asked begins, or no mark is added
abbrev pub ask_marks : CellState → ℕ → Option (List ℕ) → Bool → List TurnMark
ask_marks c call chain may_begin = asked_marks call (kept_chain c chain) (admit_call c call chain may_begin).answer

-- the call that was waiting begins, if there is one
abbrev pub next_marks : Option Waiter → List TurnMark
next_marks None = []
next_marks (Some w) = Began w.call w.chain ∷ []

-- an open turn ends, and the next call begins
abbrev pub end_marks : CellState → ℕ → Bool → List TurnMark
end_marks c call may_begin = if has_turn call c.turns then Ended call ∷ next_marks (next_call may_begin (without_call c call)) else []

abbrev pub begin_marks : CellState → List TurnMark
begin_marks c = next_marks (first_unmoved c.queue)

abbrev pub ended_marks : List Turn → List TurnMark
ended_marks [] = []
ended_marks (t ∷ ts) = Ended t.call ∷ ended_marks ts

-- each open turn ends, in the order in which the turns began
abbrev pub end_all_marks : CellState → List TurnMark
end_all_marks c = ended_marks c.turns

-- ---- lists of calls

-- a call that may change the cell; a call that ran out of memory changes nothing, and is in no list
pub data CellEvent : Type 0 where
  Asks : (call : ℕ) → (chain : Option (List ℕ)) → (may_begin : Bool) → CellEvent
  Ends : (call : ℕ) → (may_begin : Bool) → CellEvent
  Polls : (call : ℕ) → CellEvent
  BeginsNext : CellEvent
  Holds : CellEvent
  Releases : CellEvent
  MovesWaiting : CellEvent
  EndsAll : CellEvent

-- the cell after the call
abbrev pub cell_step : CellState → CellEvent → CellState
cell_step c (Asks call chain may_begin) = (admit_call c call chain may_begin).cell
cell_step c (Ends call may_begin) = (cell_end c call may_begin).cell
cell_step c (Polls call) = (cell_poll c call).cell
cell_step c BeginsNext = cell_begin_next c
cell_step c Holds = with_hold c
cell_step c Releases = without_hold c
cell_step c MovesWaiting = with_queue_moved c
cell_step c EndsAll = without_turns c

-- the marks that the call adds
abbrev pub cell_marks : CellState → CellEvent → List TurnMark
cell_marks c (Asks call chain may_begin) = ask_marks c call chain may_begin
cell_marks c (Ends call may_begin) = end_marks c call may_begin
cell_marks c (Polls call) = []
cell_marks c BeginsNext = begin_marks c
cell_marks c Holds = []
cell_marks c Releases = []
cell_marks c MovesWaiting = []
cell_marks c EndsAll = end_all_marks c

-- what the call requires of its caller
abbrev pub MayHappen : CellState → CellEvent → Type 0
MayHappen c (Asks call chain may_begin) = (is_in_cell call c ≡ false) × (0 < c.depth → IsSome chain)
MayHappen c (Ends call may_begin) = Unit {0}
MayHappen c (Polls call) = Unit {0}
MayHappen c BeginsNext = c.turns ≡ []
MayHappen c Holds = c.holds < 2 ^ 62
MayHappen c Releases = Unit {0}
MayHappen c MovesWaiting = Unit {0}
MayHappen c EndsAll = Unit {0}

abbrev pub state_after : CellState → List CellEvent → CellState
state_after c [] = c
state_after c (e ∷ es) = state_after (cell_step c e) es

abbrev pub run_marks : CellState → List CellEvent → List TurnMark
run_marks c [] = []
run_marks c (e ∷ es) = cell_marks c e ++ run_marks (cell_step c e) es

abbrev pub AllMayHappen : CellState → List CellEvent → Type 0
AllMayHappen c [] = Unit {0}
AllMayHappen c (e ∷ es) = MayHappen c e × AllMayHappen (cell_step c e) es
