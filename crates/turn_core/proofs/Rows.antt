-- Worked examples of the cell rule.
use Rattle.std.proofs.Common.{◌≡◌, ℕ, true, false, List, [], ◌∷◌, Option, None, Some, refl}
use Rattle.std.specs.declared.result.Result.TheVariants.{Ok, Err}
use Rattle.turn_core.specs.declared.answer.Asked.TheVariants as asked
use Rattle.turn_core.specs.declared.answer.CellError.TheVariants as refused
use Rattle.turn_core.specs.declared.answer.CellEnd.TheVariants as ending
use Rattle.turn_core.specs.declared.answer.CellPoll.TheVariants as polled
use Rattle.turn_core.specs.Cell.{CellState, new_cell, admit_call, cell_end, cell_poll, chain_of}
use Rattle.turn_core.specs.CellMarks.{Began, Ended, Asks, Ends, Polls, MovesWaiting, state_after, run_marks}

abbrev x : Option (List ℕ)
x = Some (120 ∷ [])

abbrev y : Option (List ℕ)
y = Some (121 ∷ [])

-- two turns of one chain at depth 2
abbrev two_open : CellState
two_open = state_after (new_cell 2) (Asks 1 x true ∷ Asks 2 x false ∷ [])

first_begins : (admit_call (new_cell 2) 1 x true).answer ≡ Ok asked.Begun
first_begins = refl

chain_enters : (admit_call (state_after (new_cell 2) (Asks 1 x true ∷ [])) 2 x false).answer ≡ Ok asked.Begun
chain_enters = refl

depth_refuses : (admit_call two_open 3 x true).answer ≡ Err (refused.Depth 2)
depth_refuses = refl

other_chain_waits : (admit_call two_open 3 y true).answer ≡ Ok (asked.Waits 1)
other_chain_waits = refl

-- the other chain begins when both turns have ended, in either order
first_end_hands_nothing : (cell_end (state_after two_open (Asks 3 y true ∷ [])) 1 true).answer ≡ ending.Ended None
first_end_hands_nothing = refl

last_end_hands_over : (cell_end (state_after two_open (Asks 3 y true ∷ Ends 1 true ∷ [])) 2 true).answer ≡ ending.Ended (Some 3)
last_end_hands_over = refl

other_order_hands_over : (cell_end (state_after two_open (Asks 3 y true ∷ Ends 2 true ∷ [])) 1 true).answer ≡ ending.Ended (Some 3)
other_order_hands_over = refl

hand_over_marks : run_marks (new_cell 2) (Asks 1 x true ∷ Asks 2 x true ∷ Asks 3 y true ∷ Ends 2 true ∷ Ends 1 true ∷ [])
    ≡ Began 1 x ∷ Began 2 x ∷ Ended 2 ∷ Ended 1 ∷ Began 3 y ∷ []
hand_over_marks = refl

-- a moved call never begins: it stays until it is polled
abbrev one_moved : CellState
one_moved = state_after (new_cell 0) (Asks 1 x true ∷ Asks 2 x true ∷ MovesWaiting ∷ Asks 3 x true ∷ [])

moved_keeps_place : (cell_poll one_moved 3).answer ≡ polled.Waits 2
moved_keeps_place = refl

moved_never_begins : (cell_end one_moved 1 true).answer ≡ ending.Ended (Some 3)
moved_never_begins = refl

moved_is_polled_once : (cell_poll (state_after one_moved (Polls 2 ∷ [])) 2).answer ≡ polled.Gone
moved_is_polled_once = refl

-- with reentrancy off no chain is kept
no_chain_kept : chain_of one_moved.turns ≡ None
no_chain_kept = refl
