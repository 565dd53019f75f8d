-- Worked runs: the outcomes of some events, and the turns in the log.
use Rattle.std.proofs.Common.{◌≡◌, ℕ, List, [], ◌∷◌, Option, None, Some, refl}
use Rattle.std.specs.Prelude.{codes}
use Rattle.std.specs.Fmt.{digits}
use Rattle.turn_core.specs.CellMarks.{TurnMark, Began, Ended}
use Rattle.world_events.specs.Solo.{SoloEvent, Call, End, Poll, Hold, Release}
use Rattle.world_events.specs.declared.outcome.TurnOutcome.{TurnOutcome}
use Rattle.world_events.specs.declared.outcome.TurnOutcome.TheVariants as out
use Rattle.solo_run.specs.World.{TypeDepth}
use Rattle.solo_run.specs.Runs.{Said, solo_log}
use Rattle.solo_run.specs.TurnsTold.{turns_at}

abbrev outcomes : List Said → List TurnOutcome
outcomes [] = []
outcomes (s ∷ log) = s.outcome ∷ outcomes log

-- these events come to these outcomes
abbrev Gives : List TypeDepth → List SoloEvent → List TurnOutcome → Type 0
Gives depths events all = outcomes (solo_log depths events) ≡ all

-- and the log has these turns of the actor
abbrev Tells : List TypeDepth → List SoloEvent → List ℕ → List TurnMark → Type 0
Tells depths events key marks = turns_at depths key (solo_log depths events) ≡ marks

abbrev seven : List ℕ
seven = codes "counter/7"

abbrev eight : List ℕ
eight = codes "counter/8"

abbrev two_deep : List TypeDepth
two_deep = record { kind = codes "counter"; depth = 2 } ∷ []

abbrev x : Option (List ℕ)
x = Some (codes "x")

abbrev y : Option (List ℕ)
y = Some (codes "y")

-- with reentrancy off the second call waits, whatever chain it brings
abbrev waiting : List SoloEvent
waiting = Call 1 seven x ∷ Call 2 seven x ∷ End 1 ∷ []

row_waiting : Gives [] waiting (out.Begun 1 ∷ out.Waits 2 1 ∷ out.Ended 1 (Some 2) ∷ [])
row_waiting = refl

row_waiting_turns : Tells [] waiting seven (Began 1 None ∷ Ended 1 ∷ Began 2 None ∷ [])
row_waiting_turns = refl

-- no more turns of a chain than the depth, counted for each actor
abbrev deep : List SoloEvent
deep = Call 1 seven x ∷ Call 2 seven x ∷ Call 3 seven x ∷ Call 4 eight x ∷ []

row_deep : Gives two_deep deep (out.Begun 1 ∷ out.Begun 2 ∷ out.Depth 3 2 ∷ out.Begun 4 ∷ [])
row_deep = refl

row_deep_turns : Tells two_deep deep seven (Began 1 x ∷ Began 2 x ∷ [])
row_deep_turns = refl

row_other_turns : Tells two_deep deep eight (Began 4 x ∷ [])
row_other_turns = refl

-- another chain waits until every turn of the first has ended; its turn is under the chain that its own call brought
abbrev chains : List SoloEvent
chains = Call 1 seven x ∷ Call 2 seven x ∷ Call 3 seven y ∷ End 1 ∷ End 2 ∷ End 2 ∷ End 4 ∷ []

row_chains : Gives two_deep chains (out.Begun 1 ∷ out.Begun 2 ∷ out.Waits 3 1 ∷ out.Ended 1 None ∷ out.Ended 2 (Some 3) ∷ out.AlreadyEnded 2 ∷ out.NotThere ∷ [])
row_chains = refl

row_chains_turns : Tells two_deep chains seven (Began 1 x ∷ Began 2 x ∷ Ended 1 ∷ Ended 2 ∷ Began 3 y ∷ [])
row_chains_turns = refl

-- a call that brings no chain has one made from its number, which no other call has
row_made_turns : Tells two_deep (Call 1 seven None ∷ Call 2 seven None ∷ End 1 ∷ []) seven
    (Began 1 (Some (codes "solo.1.0.1")) ∷ Ended 1 ∷ Began 2 (Some (codes "solo.1.0.2")) ∷ [])
unfolding digits
row_made_turns = refl

-- a wrong number is refused: it is in no log, and the next call may have the right one
row_number : Gives [] (Call 2 seven None ∷ Call 1 seven None ∷ Call 1 seven None ∷ Poll 1 ∷ []) (out.Begun 1 ∷ out.Begun 1 ∷ [])
row_number = refl

-- the poll of an open call gives the same answer as its beginning, and no turn
row_poll_turns : Tells [] (Call 1 seven None ∷ Poll 1 ∷ End 1 ∷ End 1 ∷ []) seven (Began 1 None ∷ Ended 1 ∷ [])
row_poll_turns = refl

-- an actor is active from its first call on, and only an active one is held
row_holds : Gives [] (Hold seven ∷ Call 1 seven None ∷ Hold seven ∷ Release seven ∷ Release seven ∷ []) (out.NotActive ∷ out.Begun 1 ∷ out.Held ∷ out.Released ∷ out.NotHeld ∷ [])
row_holds = refl
