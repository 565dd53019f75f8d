-- What happens in the world of a solo script, with its keys and chains as lists of bytes. Own: docs/scripts.md.
use Rattle.std.specs.Prelude.{ℕ, List, Option, option_map}
use Rattle.world_events.specs.declared.event.SoloEvent.{SoloEvent as Lent}
use Rattle.world_events.specs.declared.event.SoloEvent.TheVariants as lent

pub data SoloEvent : Type 0 where
  Call : (call : ℕ) → (key : List ℕ) → (chain : Option (List ℕ)) → SoloEvent
  End : (call : ℕ) → SoloEvent
  Poll : (call : ℕ) → SoloEvent
  Hold : (key : List ℕ) → SoloEvent
  Release : (key : List ℕ) → SoloEvent

-- an event whose keys and chains are borrowed from a script, as one with lists of bytes
abbrev pub event_told : Lent → SoloEvent
event_told (lent.Call call key chain) = Call call key.now (option_map (λ c. c.now) chain)
event_told (lent.End call) = End call
event_told (lent.Poll call) = Poll call
event_told (lent.Hold key) = Hold key.now
event_told (lent.Release key) = Release key.now
