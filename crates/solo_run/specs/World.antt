-- The world of a solo script: the cells of its actors, without members, parts and tables. Own: docs/turns.md.
use Rattle.std.specs.Prelude.{ℕ, ◌+◌, ◌-◌, ◌^◌, Bool, true, false, ◌==◌, if◌then◌else◌, List, [], ◌∷◌, ◌++◌, length, slice_get, bytes_eq, codes, decimal, Option, None, Some, unwrap_or, option_and_then, Result, Ok, Err}
use Rattle.actor_names.specs.Names.{before_slash}
use Rattle.turn_core.specs.Cell.{CellState, AskStep, new_cell, admit_call, cell_end, cell_poll, with_hold, without_hold}
use Rattle.turn_core.specs.CellMarks.{TurnMark, ask_marks, end_marks}
use Rattle.turn_core.specs.declared.answer.Asked.{Asked}
use Rattle.turn_core.specs.declared.answer.Asked.TheVariants as asked
use Rattle.turn_core.specs.declared.answer.CellError.{CellError}
use Rattle.turn_core.specs.declared.answer.CellError.TheVariants as refused
use Rattle.turn_core.specs.declared.answer.CellEnd.{CellEnd}
use Rattle.turn_core.specs.declared.answer.CellEnd.TheVariants as ending
use Rattle.turn_core.specs.declared.answer.CellPoll.{CellPoll}
use Rattle.turn_core.specs.declared.answer.CellPoll.TheVariants as polled
use Rattle.world_events.specs.Solo.{SoloEvent, Call, End, Poll, Hold, Release}
use Rattle.world_events.specs.declared.outcome.TurnOutcome.{TurnOutcome}
use Rattle.world_events.specs.declared.outcome.TurnOutcome.TheVariants as out
use Rattle.world_events.specs.declared.error.WorldError.{WorldError}
use Rattle.world_events.specs.declared.error.WorldError.TheVariants.{WrongNumber, Spent}

-- a type with reentrancy on, and its depth
pub record TypeDepth : Type 0 where
  pub kind : List ℕ
  pub depth : ℕ

-- an actor, by the text `TYPE/ID` of its key, and its cell
pub record Actor : Type 0 where
  pub key : List ℕ
  pub cell : CellState

pub record SoloState : Type 0 where
  pub depths : List TypeDepth
  pub actors : List Actor  -- in the order of their first calls
  pub calls : List (Option (List ℕ))  -- for each call so far the key of its actor, none if it was refused
  pub events : ℕ  -- the events so far

abbrev pub new_state : SoloState
new_state = record { depths = []; actors = []; calls = []; events = 0 }

-- the depth of a type, 0 if reentrancy is off
abbrev pub depth_of : List ℕ → List TypeDepth → ℕ
depth_of kind [] = 0
depth_of kind (t ∷ ts) = if bytes_eq kind t.kind then t.depth else depth_of kind ts

abbrev pub has_depth : List ℕ → List TypeDepth → Bool
has_depth kind [] = false
has_depth kind (t ∷ ts) = if bytes_eq kind t.kind then true else has_depth kind ts

abbrev pub cell_at : List ℕ → List Actor → Option CellState
cell_at key [] = None
cell_at key (a ∷ others) = if bytes_eq key a.key then Some a.cell else cell_at key others

-- the actor's cell in place of the one it had; a new actor comes last
abbrev pub put_cell : List ℕ → CellState → List Actor → List Actor
put_cell key cell [] = record { key = key; cell = cell } ∷ []
put_cell key cell (a ∷ others) = if bytes_eq key a.key then record { key = a.key; cell = cell } ∷ others else a ∷ put_cell key cell others

-- an actor's cell is made by its first call, with the depth of its type
abbrev pub cell_for : List TypeDepth → List ℕ → List Actor → CellState
cell_for depths key actors = unwrap_or (cell_at key actors) (new_cell (depth_of (before_slash key) depths))

-- the key of a call's actor, none if it was refused or never made; calls count from 1
abbrev pub key_of_call : ℕ → List (Option (List ℕ)) → Option (List ℕ)
key_of_call call calls = if call == 0 then None else option_and_then (λ key. key) (slice_get calls (call - 1))

-- the chain that a part makes for a call that brings none: node `solo`, boot 1, part 0, the call's number
abbrev pub made_chain : ℕ → List ℕ
made_chain number = codes "solo.1.0." ++ decimal number

-- the chain of a call, made if it brings none; with reentrancy off there is none
abbrev pub chain_for : ℕ → ℕ → Option (List ℕ) → Option (List ℕ)
chain_for depth number chain = if depth == 0 then None else Some (unwrap_or chain (made_chain number))

-- a mark of an actor's turn
pub record ActorMark : Type 0 where
  pub key : List ℕ
  pub mark : TurnMark

abbrev pub marks_at : List ℕ → List TurnMark → List ActorMark
marks_at key [] = []
marks_at key (m ∷ ms) = record { key = key; mark = m } ∷ marks_at key ms

-- the marks of one actor, in their order
abbrev pub marks_of : List ℕ → List ActorMark → List TurnMark
marks_of key [] = []
marks_of key (m ∷ ms) = if bytes_eq key m.key then m.mark ∷ marks_of key ms else marks_of key ms

-- the world after an event, what came of it, and the turns that began and ended
pub record WorldStep : Type 0 where
  pub world : SoloState
  pub outcome : TurnOutcome
  pub marks : List ActorMark

abbrev pub ask_outcome : ℕ → Result Asked CellError → TurnOutcome
ask_outcome number (Ok asked.Begun) = out.Begun number
ask_outcome number (Ok (asked.Waits place)) = out.Waits number place
ask_outcome number (Err (refused.Depth turns)) = out.Depth number turns
ask_outcome number (Err (refused.QueueFull n)) = out.QueueFull number
ask_outcome number (Err refused.OutOfMemory) = out.NotThere

-- a refused call has no actor
abbrev pub asked_key : List ℕ → Result Asked CellError → Option (List ℕ)
asked_key key (Ok answer) = Some key
asked_key key (Err e) = None

-- a call is made at a cell, where a new chain may always begin
abbrev pub ask_at : CellState → ℕ → Option (List ℕ) → AskStep
ask_at cell number chain = admit_call cell number (chain_for cell.depth number chain) true

abbrev pub ask_marks_at : CellState → ℕ → Option (List ℕ) → List TurnMark
ask_marks_at cell number chain = ask_marks cell number (chain_for cell.depth number chain) true

abbrev pub call_at : SoloState → ℕ → List ℕ → Option (List ℕ) → CellState → WorldStep
call_at w number key chain cell =
    record {
      world = record w { actors = put_cell key (ask_at cell number chain).cell w.actors; calls = w.calls ++ asked_key key (ask_at cell number chain).answer ∷ []; events = w.events + 1 };
      outcome = ask_outcome number (ask_at cell number chain).answer;
      marks = marks_at key (ask_marks_at cell number chain);
    }

abbrev pub call_step : SoloState → ℕ → List ℕ → Option (List ℕ) → WorldStep
call_step w number key chain = call_at w number key chain (cell_for w.depths key w.actors)

-- an event that changes no cell
abbrev pub unchanged : SoloState → TurnOutcome → WorldStep
unchanged w outcome = record { world = record w { events = w.events + 1 }; outcome = outcome; marks = [] }

abbrev pub end_outcome : ℕ → CellEnd → TurnOutcome
end_outcome call (ending.Ended next) = out.Ended call next
end_outcome call ending.AlreadyEnded = out.AlreadyEnded call
end_outcome call ending.StillWaiting = out.StillWaiting call

abbrev pub end_at : SoloState → ℕ → List ℕ → CellState → WorldStep
end_at w call key cell =
    record {
      world = record w { actors = put_cell key (cell_end cell call true).cell w.actors; events = w.events + 1 };
      outcome = end_outcome call (cell_end cell call true).answer;
      marks = marks_at key (end_marks cell call true);
    }

-- no call of a solo script is ever moved
abbrev pub poll_outcome : ℕ → CellPoll → TurnOutcome
poll_outcome call polled.Begun = out.Begun call
poll_outcome call (polled.Waits place) = out.Waits call place
poll_outcome call polled.Moved = out.AlreadyEnded call
poll_outcome call polled.Gone = out.AlreadyEnded call

abbrev pub poll_at : SoloState → ℕ → List ℕ → CellState → WorldStep
poll_at w call key cell =
    record {
      world = record w { actors = put_cell key (cell_poll cell call).cell w.actors; events = w.events + 1 };
      outcome = poll_outcome call (cell_poll cell call).answer;
      marks = [];
    }

abbrev pub at_cell : SoloState → (List ℕ → CellState → WorldStep) → List ℕ → Option CellState → WorldStep
at_cell w step key None = unchanged w out.NotThere
at_cell w step key (Some cell) = step key cell

abbrev pub at_key : SoloState → (List ℕ → CellState → WorldStep) → Option (List ℕ) → WorldStep
at_key w step None = unchanged w out.NotThere
at_key w step (Some key) = at_cell w step key (cell_at key w.actors)

-- what is done at the cell of a call; `NotThere` if the call was refused or never made
abbrev pub at_call : SoloState → (List ℕ → CellState → WorldStep) → ℕ → WorldStep
at_call w step call = at_key w step (key_of_call call w.calls)

-- a cell is active from its first turn on, which is its first call's; so an actor that was called is active
abbrev pub hold_step : SoloState → List ℕ → Option CellState → WorldStep
hold_step w key None = unchanged w out.NotActive
hold_step w key (Some cell) = record { world = record w { actors = put_cell key (with_hold cell) w.actors; events = w.events + 1 }; outcome = out.Held; marks = [] }

abbrev pub release_step : SoloState → List ℕ → Option CellState → WorldStep
release_step w key None = unchanged w out.NotHeld
release_step w key (Some cell) =
    if cell.holds == 0 then unchanged w out.NotHeld else
    record { world = record w { actors = put_cell key (without_hold cell) w.actors; events = w.events + 1 }; outcome = out.Released; marks = [] }

abbrev pub solo_step : SoloState → SoloEvent → WorldStep
solo_step w (Call call key chain) = call_step w call key chain
solo_step w (End call) = at_call w (end_at w call) call
solo_step w (Poll call) = at_call w (poll_at w call) call
solo_step w (Hold key) = hold_step w key (cell_at key w.actors)
solo_step w (Release key) = release_step w key (cell_at key w.actors)

-- a call's number is one more than the calls so far
abbrev pub number_refusal : SoloState → SoloEvent → Option WorldError
number_refusal w (Call call key chain) = if call == length w.calls + 1 then None else Some (WrongNumber (length w.calls + 1))
number_refusal w (End call) = None
number_refusal w (Poll call) = None
number_refusal w (Hold key) = None
number_refusal w (Release key) = None

-- Why an event is refused: there were 2^62 events, which is tested first, or a call's number is wrong.
abbrev pub refusal_of : SoloState → SoloEvent → Option WorldError
refusal_of w event = if w.events == 2 ^ 62 then Some (Spent (2 ^ 62)) else number_refusal w event
