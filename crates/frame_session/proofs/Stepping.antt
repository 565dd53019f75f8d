-- What a call of a step gate says of a machine that is asked there.
use Rattle.std.proofs.Common.{◌≡◌, ◌<◌, ◌≤◌, ◌^◌, ℕ, List, [], ◌∷◌, ◌++◌, length, refl, ap, subst, length-append, arith}
use Rattle.step_gate.specs.declared.gate.Gate.{Gate}
use Rattle.step_gate.specs.declared.view.HistoryEntry.{HistoryEntry}
use Rattle.step_gate.specs.History.{HistoryLeadsTo, LegalHistory, entry, made}
use Rattle.step_gate.specs.Gates.{SeatOf, IsSeatOf, Adds, SeesLast, opening_of, seen_of, number_of}
use Rattle.step_gate.proofs.Waits.{adds_prefix, last_grows}
use Rattle.frame_session.specs.Exchanges.{exchange}
use Rattle.frame_session.specs.AtStepGate.{StepReplies, StepsMade, steps_seen}

module _ {S E R : Type 0} (moves : S → E → R → S → Type 0) where
  last_step : (a : S) (front : List (HistoryEntry E R)) (e : HistoryEntry E R) (b : S) → HistoryLeadsTo moves a (front ++ e ∷ []) b → StepReplies moves e.event e.reply
  last_step a [] e b l = (a, l.0, l.1)
  last_step a (f ∷ front) e b l = last_step l.0 front e b l.2

  -- what a seat has added is a step of the machine from some value to some value
  pub added_step : (gate : Gate S E R) (event : E) (reply : R) (before after : SeatOf S E R) → IsSeatOf moves gate after → Adds event reply before after → StepReplies moves event reply
  added_step gate event reply before after seat adds =
      let e : HistoryEntry E R = entry (number_of before) event reply in
      let legal : LegalHistory moves (opening_of gate) ((seen_of before ++ adds.between) ++ e ∷ []) = subst (λ (es : List (HistoryEntry E R)). LegalHistory moves (opening_of gate) es) adds.seen seat.legal in
      last_step (opening_of gate) (seen_of before ++ adds.between) e legal.0 legal.1

module _ {S E R : Type 0} (event : E) (reply : R) (before after : SeatOf S E R) (adds : Adds event reply before after) where
  pub added_one : StepsMade (exchange event reply ∷ []) before after
  added_one = record {
    entries = made (length (seen_of before ++ adds.between)) (entry (number_of before) event reply) ∷ [];
    are = refl;
    grows = record { mine = adds.mine; seen = adds_prefix event reply before after adds; number = adds.number };
  }

  pub added_longer : (steps_seen before < steps_seen after) × (steps_seen after ≤ 2 ^ 62)
  added_longer =
      let seen = ap length adds.seen in
      (omega (arith, seen, length-append (seen_of before ++ adds.between) (entry (number_of before) event reply ∷ []), length-append (seen_of before) adds.between), adds.small)

pub added_none : {S E R : Type 0} (count : ℕ) (before after : SeatOf S E R) → (count ≡ 2 ^ 62) × SeesLast before after → (count ≡ 2 ^ 62) × (steps_seen after ≡ 2 ^ 62) × StepsMade [] before after
added_none count before after spent = (spent.0, spent.1.full, record { entries = []; are = refl; grows = last_grows before after spent.1 })
