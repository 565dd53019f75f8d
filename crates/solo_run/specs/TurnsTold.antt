-- What the log of a run says of turns: each is at the actor, and under the chain, named by the event that made its
-- call. Own: docs/turns.md.
use Rattle.std.specs.Prelude.{◌≡◌, ℕ, ◌+◌, ◌==◌, if◌then◌else◌, List, [], ◌∷◌, ◌++◌, slice_get, Option, None, Some}
use Rattle.actor_names.specs.Names.{before_slash}
use Rattle.turn_core.specs.declared.cell.Turn.{Turn}
use Rattle.turn_core.specs.Cell.{CellState}
use Rattle.turn_core.specs.CellMarks.{TurnMark, Began, Ended}
use Rattle.turn_core.specs.CellSound.{In}
use Rattle.world_events.specs.Solo.{SoloEvent, Call, End, Poll, Hold, Release}
use Rattle.world_events.specs.declared.outcome.TurnOutcome.{TurnOutcome}
use Rattle.world_events.specs.declared.outcome.TurnOutcome.TheVariants as out
use Rattle.solo_run.specs.World.{SoloState, Actor, TypeDepth, ActorMark, cell_at, chain_for, depth_of, marks_of}
use Rattle.solo_run.specs.Runs.{Said}

-- ---- which turns begin and end

-- a call's turn began or ended
pub data CallTurn : Type 0 where
  Begins : (call : ℕ) → CallTurn
  Ends : (call : ℕ) → CallTurn

-- The turns in an event's outcome: a call begins at once, or an end ends a turn and may begin the next.
abbrev pub told_turns : SoloEvent → TurnOutcome → List CallTurn
told_turns (Call asked key chain) (out.Begun call) = Begins call ∷ []
told_turns (End call) (out.Ended ended None) = Ends ended ∷ []
told_turns (End call) (out.Ended ended (Some next)) = Ends ended ∷ Begins next ∷ []
told_turns event outcome = []

abbrev pub turns_of_log : List Said → List CallTurn
turns_of_log [] = []
turns_of_log (s ∷ log) = told_turns s.event s.outcome ++ turns_of_log log

abbrev pub turn_call : CallTurn → ℕ
turn_call (Begins call) = call
turn_call (Ends call) = call

-- a mark without its actor and chain
abbrev pub call_turn : TurnMark → CallTurn
call_turn (Began call chain) = Begins call
call_turn (Ended call) = Ends call

abbrev pub call_turns : List ActorMark → List CallTurn
call_turns [] = []
call_turns (m ∷ ms) = call_turn m.mark ∷ call_turns ms

-- ---- whose they are

-- a call as its event names it: the actor's key, and the chain that the call brings
pub record AskedCall : Type 0 where
  pub key : List ℕ
  pub chain : Option (List ℕ)

-- the call of this number, if the event makes it
abbrev pub call_in : ℕ → SoloEvent → Option AskedCall
call_in n (Call call key chain) = if n == call then Some (record { key = key; chain = chain }) else None
call_in n (End call) = None
call_in n (Poll call) = None
call_in n (Hold key) = None
call_in n (Release key) = None

abbrev pub or_later : Option AskedCall → Option AskedCall → Option AskedCall
or_later None later = later
or_later (Some asked) later = Some asked

-- the call of this number in a log
abbrev pub asked_call : ℕ → List Said → Option AskedCall
asked_call n [] = None
asked_call n (s ∷ log) = or_later (call_in n s.event) (asked_call n log)

-- A call's turn began under the chain that the call brought, or the one made for it; with reentrancy off under none.
abbrev pub mark_told : List TypeDepth → AskedCall → CallTurn → TurnMark
mark_told depths asked (Begins call) = Began call (chain_for (depth_of (before_slash asked.key) depths) call asked.chain)
mark_told depths asked (Ends call) = Ended call

-- a turn at the actor that its call names
abbrev pub turn_at : List TypeDepth → CallTurn → Option AskedCall → List ActorMark
turn_at depths turn None = []
turn_at depths turn (Some asked) = record { key = asked.key; mark = mark_told depths asked turn } ∷ []

abbrev pub turns_told : List TypeDepth → List Said → List CallTurn → List ActorMark
turns_told depths log [] = []
turns_told depths log (turn ∷ turns) = turn_at depths turn (asked_call (turn_call turn) log) ++ turns_told depths log turns

-- the turns in a log, each at the actor and under the chain of the event that made its call
abbrev pub actor_turns : List TypeDepth → List Said → List ActorMark
actor_turns depths log = turns_told depths log (turns_of_log log)

-- those of one actor
abbrev pub turns_at : List TypeDepth → List ℕ → List Said → List TurnMark
turns_at depths key log = marks_of key (actor_turns depths log)

-- ---- the calls of a log

-- the number of the call that an event makes
abbrev pub number_in : SoloEvent → List ℕ
number_in (Call call key chain) = call ∷ []
number_in (End call) = []
number_in (Poll call) = []
number_in (Hold key) = []
number_in (Release key) = []

-- the numbers of the calls that a log has, in their order
abbrev pub numbers_of : List Said → List ℕ
numbers_of [] = []
numbers_of (s ∷ log) = number_in s.event ++ numbers_of log

-- the numbers are 1, 2, 3 and so on
abbrev pub CountsFromOne : List ℕ → Type 0
CountsFromOne numbers = (place number : ℕ) → slice_get numbers place ≡ Some number → number ≡ place + 1

-- ---- the actors of a state

abbrev pub turns_in : Option CellState → List Turn
turns_in None = []
turns_in (Some cell) = cell.turns

-- the open turns of an actor, none if it was never called
abbrev pub open_turns : List ℕ → SoloState → List Turn
open_turns key w = turns_in (cell_at key w.actors)

-- an actor with a waiting call has an open turn
abbrev pub NoIdleWaiter : SoloState → Type 0
NoIdleWaiter w = (a : Actor) → In a w.actors → a.cell.turns ≡ [] → a.cell.queue ≡ []
