-- What is asked of a machine, and what it answers. Own.

-- an event, and the reply to it
pub record Exchange (E R : Type 0) : Type 0 where
  pub event : E
  pub reply : R

module _ {E R : Type 0} where
  abbrev pub exchange : E → R → Exchange E R
  exchange e r = record { event = e; reply = r }
