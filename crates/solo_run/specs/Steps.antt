-- What a step of the program's world gives: the definition's step, or a refusal that changes nothing.
use Rattle.std.specs.Prelude.{◌≡◌, None, Some, Result, Ok, Err}
use Rattle.world_events.specs.Solo.{SoloEvent}
use Rattle.solo_run.specs.World.{SoloState, solo_step, refusal_of}
use Rattle.world_events.specs.declared.outcome.TurnOutcome.{TurnOutcome}
use Rattle.world_events.specs.declared.error.WorldError.{WorldError}
use Rattle.world_events.specs.declared.error.WorldError.TheVariants.{Spent, Dishonest, WrongNumber, OutOfMemory}

pub record GivesOutcome (outcome : TurnOutcome) (old new : SoloState) (event : SoloEvent) : Type 0 where
  pub world : new ≡ (solo_step old event).world
  pub gives : outcome ≡ (solo_step old event).outcome

-- An event that isn't refused makes its step; each refusal comes for exactly its cause, except out of memory. There
-- are no members here, so no running one is declared lost.
abbrev pub GivesStep : Result TurnOutcome WorldError → SoloState → SoloState → SoloEvent → Type 0
GivesStep (Ok outcome) old new event = (refusal_of old event ≡ None) × GivesOutcome outcome old new event
GivesStep (Err (Spent count)) old new event = (refusal_of old event ≡ Some (Spent count)) × (new ≡ old)
GivesStep (Err (Dishonest member)) old new event = ⊥
GivesStep (Err (WrongNumber next)) old new event = (refusal_of old event ≡ Some (WrongNumber next)) × (new ≡ old)
GivesStep (Err OutOfMemory) old new event = (refusal_of old event ≡ None) × (new ≡ old)
