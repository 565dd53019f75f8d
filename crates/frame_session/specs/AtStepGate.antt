-- What is asked of a machine at a step gate. Own.
use Rattle.std.specs.Prelude.{◌≡◌, ℕ, List, [], ◌++◌, length, map}
use Rattle.std.proofs.Common.{refl, sym, ap, ◌∙◌, append-nil}
use Rattle.std.proofs.lemmas.List.{map-append}
use Rattle.step_gate.specs.declared.view.Made.{Made}
use Rattle.step_gate.specs.Gates.{SeatOf, Grows, seen_of}
use Rattle.step_gate.proofs.Beginnings.{prefix_self}
use Rattle.step_gate.proofs.Waits.{grows_on}
use Rattle.frame_session.specs.Exchanges.{Exchange, exchange}

-- some step of the machine replies so to the event
abbrev pub StepReplies : {S E R : Type 0} → (S → E → R → S → Type 0) → E → R → Type 0
StepReplies {S} moves e r = (old : S) × (new : S) × moves old e r new

module _ {E R : Type 0} where
  -- the event and the reply of an entry
  abbrev pub exchange_of : Made E R → Exchange E R
  exchange_of m = exchange m.entry.event m.entry.reply

module _ {S E R : Type 0} where
  -- the entries that were added to the seat's own are just these exchanges, in this order
  pub record StepsMade (xs : List (Exchange E R)) (before after : SeatOf S E R) : Type 0 where
    pub entries : List (Made E R)
    pub are : map exchange_of entries ≡ xs
    pub grows : Grows entries before after

  -- how many steps of the history the seat has seen
  abbrev pub steps_seen : SeatOf S E R → ℕ
  steps_seen s = length (seen_of s)

  pub no_steps_made : (s : SeatOf S E R) → StepsMade [] s s
  no_steps_made s = record { entries = []; are = refl; grows = record { mine = sym (append-nil _); seen = prefix_self _; number = refl } }

  pub steps_made_on : (xs ys : List (Exchange E R)) (s0 s1 s2 : SeatOf S E R) → StepsMade xs s0 s1 → StepsMade ys s1 s2 → StepsMade (xs ++ ys) s0 s2
  steps_made_on xs ys s0 s1 s2 a b = record {
    entries = a.entries ++ b.entries;
    are = map-append exchange_of a.entries b.entries ∙ ap (λ (l : List (Exchange E R)). l ++ map exchange_of b.entries) a.are ∙ ap (λ (l : List (Exchange E R)). xs ++ l) b.are;
    grows = grows_on a.entries b.entries s0 s1 s2 a.grows b.grows;
  }
