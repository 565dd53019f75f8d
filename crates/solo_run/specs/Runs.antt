-- The run of a solo world: the depths of its types, which are set before its first event, then its events in order.
-- Its log says what happened: each event with its outcome. A refused event changes nothing and is in no log.
-- Own: docs/scripts.md.
use Rattle.std.specs.Prelude.{List, [], ◌∷◌, ◌++◌, Option, None, Some}
use Rattle.world_events.specs.Solo.{SoloEvent}
use Rattle.world_events.specs.declared.outcome.TurnOutcome.{TurnOutcome}
use Rattle.world_events.specs.declared.error.WorldError.{WorldError}
use Rattle.solo_run.specs.World.{SoloState, TypeDepth, ActorMark, new_state, solo_step, refusal_of}

-- an event that happened, and its outcome
pub record Said : Type 0 where
  pub event : SoloEvent
  pub outcome : TurnOutcome

-- ---- one event

abbrev pub said_of : SoloState → SoloEvent → Option WorldError → List Said
said_of w event None = record { event = event; outcome = (solo_step w event).outcome } ∷ []
said_of w event (Some error) = []

abbrev pub after_event : SoloState → SoloEvent → Option WorldError → SoloState
after_event w event None = (solo_step w event).world
after_event w event (Some error) = w

-- the marks of the turns that it begins and ends, from the cells' own steps
abbrev pub marks_by : SoloState → SoloEvent → Option WorldError → List ActorMark
marks_by w event None = (solo_step w event).marks
marks_by w event (Some error) = []

-- ---- a list of events

abbrev pub run_from : SoloState → List SoloEvent → SoloState
run_from w [] = w
run_from w (event ∷ events) = run_from (after_event w event (refusal_of w event)) events

abbrev pub log_from : SoloState → List SoloEvent → List Said
log_from w [] = []
log_from w (event ∷ events) = said_of w event (refusal_of w event) ++ log_from (after_event w event (refusal_of w event)) events

abbrev pub marks_from : SoloState → List SoloEvent → List ActorMark
marks_from w [] = []
marks_from w (event ∷ events) = marks_by w event (refusal_of w event) ++ marks_from (after_event w event (refusal_of w event)) events

-- ---- a whole run

-- nothing has happened, and these types have reentrancy on
abbrev pub state_with : List TypeDepth → SoloState
state_with depths = record new_state { depths = depths }

-- the state after these events
abbrev pub solo_run : List TypeDepth → List SoloEvent → SoloState
solo_run depths events = run_from (state_with depths) events

abbrev pub solo_log : List TypeDepth → List SoloEvent → List Said
solo_log depths events = log_from (state_with depths) events

abbrev pub solo_marks : List TypeDepth → List SoloEvent → List ActorMark
solo_marks depths events = marks_from (state_with depths) events
