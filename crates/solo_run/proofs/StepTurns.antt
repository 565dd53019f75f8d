-- The marks of each event, without their actors and chains, are the turns in its outcome.
use Rattle.std.proofs.Common.{◌≡◌, ℕ, ◌+◌, Bool, true, false, if◌then◌else◌, List, [], ◌∷◌, ◌++◌, Option, None, Some, Result, Ok, Err, refl, ap, ◌∙◌}
use Rattle.std.specs.Prelude.{◌==◌, option_map}
use Rattle.turn_core.specs.declared.answer.Asked.{Asked}
use Rattle.turn_core.specs.declared.answer.Asked.TheVariants as asked
use Rattle.turn_core.specs.declared.answer.CellError.{CellError}
use Rattle.turn_core.specs.declared.answer.CellError.TheVariants as refusing
use Rattle.turn_core.specs.declared.cell.Waiter.{Waiter}
use Rattle.turn_core.specs.Cell.{CellState, has_turn, waiter_of, without_call, next_call, call_of, not_open, without_hold}
use Rattle.turn_core.specs.CellMarks.{Ended, asked_marks, next_marks}
use Rattle.world_events.specs.Solo.{SoloEvent, Call, End, Poll, Hold, Release}
use Rattle.world_events.specs.declared.outcome.TurnOutcome.TheVariants as out
use Rattle.world_events.specs.declared.error.WorldError.{WorldError}
use Rattle.solo_run.specs.World.{SoloState, WorldStep, ActorMark, TypeDepth, cell_at, put_cell, key_of_call, unchanged, marks_at, ask_outcome, end_outcome, end_at, poll_at, at_cell, at_key, at_call, hold_step, release_step, solo_step, refusal_of}
use Rattle.solo_run.specs.Runs.{said_of, after_event, marks_by, log_from, marks_from, state_with, solo_log, solo_marks}
use Rattle.solo_run.specs.TurnsTold.{CallTurn, told_turns, turns_of_log, call_turn, call_turns}

-- ---- one event: its marks are the turns that its outcome tells

abbrev pub IsTold : SoloEvent → WorldStep → Type 0
IsTold event step = call_turns step.marks ≡ told_turns event step.outcome

call_told : (number : ℕ) (key : List ℕ) (chain kept : Option (List ℕ)) (answer : Result Asked CellError) → call_turns (marks_at key (asked_marks number kept answer)) ≡ told_turns (Call number key chain) (ask_outcome number answer)
call_told number key chain kept (Ok asked.Begun) = refl
call_told number key chain kept (Ok (asked.Waits place)) = refl
call_told number key chain kept (Err (refusing.Depth turns)) = refl
call_told number key chain kept (Err (refusing.QueueFull n)) = refl
call_told number key chain kept (Err refusing.OutOfMemory) = refl

next_told : (key : List ℕ) (call : ℕ) (next : Option Waiter) → call_turns (marks_at key (Ended call ∷ next_marks next)) ≡ told_turns (End call) (out.Ended call (option_map call_of next))
next_told key call None = refl
next_told key call (Some w) = refl

not_open_told : (call : ℕ) (w : Option Waiter) → [] ≡ told_turns (End call) (end_outcome call (not_open w))
not_open_told call None = refl
not_open_told call (Some w) = refl

end_told : (w : SoloState) (call : ℕ) (key : List ℕ) (cell : CellState) → IsTold (End call) (end_at w call key cell)
end_told w call key cell = by (has_turn call cell.turns) refl
  where
    by : (b : Bool) → has_turn call cell.turns ≡ b → IsTold (End call) (end_at w call key cell)
    by true e = rw e (next_told key call (next_call true (without_call cell call)))
    by false e = rw e (not_open_told call (waiter_of call cell.queue))

-- an event at the cell of a call, if there is one
at_call_told : (w : SoloState) (event : SoloEvent) (step : List ℕ → CellState → WorldStep) (call : ℕ) → [] ≡ told_turns event out.NotThere → ((key : List ℕ) (cell : CellState) → IsTold event (step key cell)) → IsTold event (at_call w step call)
at_call_told w event step call quiet each = by_key (key_of_call call w.calls)
  where
    by_cell : (key : List ℕ) (found : Option CellState) → IsTold event (at_cell w step key found)
    by_cell key None = quiet
    by_cell key (Some cell) = each key cell

    by_key : (found : Option (List ℕ)) → IsTold event (at_key w step found)
    by_key None = quiet
    by_key (Some key) = by_cell key (cell_at key w.actors)

hold_told : (w : SoloState) (key : List ℕ) (found : Option CellState) → IsTold (Hold key) (hold_step w key found)
hold_told w key None = refl
hold_told w key (Some cell) = refl

release_told : (w : SoloState) (key : List ℕ) (found : Option CellState) → IsTold (Release key) (release_step w key found)
release_told w key None = refl
release_told w key (Some cell) = by (cell.holds == 0)
  where
    by : (b : Bool)
        → IsTold (Release key) (if b then unchanged w out.NotHeld else record { world = record w { actors = put_cell key (without_hold cell) w.actors; events = w.events + 1 }; outcome = out.Released; marks = [] })
    by true = refl
    by false = refl

pub step_told : (w : SoloState) (event : SoloEvent) → IsTold event (solo_step w event)
step_told w (Call number key chain) = call_told number key chain _ _
step_told w (End call) = at_call_told w (End call) (end_at w call) call refl (end_told w call)
step_told w (Poll call) = at_call_told w (Poll call) (poll_at w call) call refl (λ key cell. refl)
step_told w (Hold key) = hold_told w key (cell_at key w.actors)
step_told w (Release key) = release_told w key (cell_at key w.actors)

-- ---- a list of events

pub call_turns-append : (ms ns : List ActorMark) → call_turns (ms ++ ns) ≡ call_turns ms ++ call_turns ns
call_turns-append [] ns = refl
call_turns-append (m ∷ ms) ns = ap (λ (ts : List CallTurn). call_turn m.mark ∷ ts) (call_turns-append ms ns)

one_told : (w next : SoloState) (event : SoloEvent) (events : List SoloEvent) (refusal : Option WorldError) → call_turns (marks_from next events) ≡ turns_of_log (log_from next events)
    → call_turns (marks_by w event refusal ++ marks_from next events) ≡ turns_of_log (said_of w event refusal ++ log_from next events)
one_told w next event events None rest =
    call_turns-append (solo_step w event).marks (marks_from next events) ∙
    (ap (λ (ts : List CallTurn). ts ++ call_turns (marks_from next events)) (step_told w event) ∙ ap (λ (ts : List CallTurn). told_turns event (solo_step w event).outcome ++ ts) rest)
one_told w next event events (Some error) rest = rest

pub run_told : (w : SoloState) (events : List SoloEvent) → call_turns (marks_from w events) ≡ turns_of_log (log_from w events)
run_told w [] = refl
run_told w (event ∷ events) =
    one_told w (after_event w event (refusal_of w event)) event events (refusal_of w event) (run_told (after_event w event (refusal_of w event)) events)

-- the marks of a run, without their actors and chains, are the turns in its log
pub solo_told : (depths : List TypeDepth) (events : List SoloEvent) → call_turns (solo_marks depths events) ≡ turns_of_log (solo_log depths events)
solo_told depths events = run_told (state_with depths) events
