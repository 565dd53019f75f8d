use Rattle.std.proofs.Common.{◌≡◌, ℕ, true, List, [], ◌∷◌, sym, ap, Option, Some, is_some, position}
use Rattle.turn_core.specs.declared.cell.Waiter.{Waiter}
use Rattle.turn_core.specs.Cell.{waiter_of}
use Rattle.turn_core.proofs.Places.{of_waiter, waiter_of-found, waiter_of-missed}
use Rattle.turn_core.proofs.queue.is_waiting.Goals as goal

of_call : (call : ℕ) (ws : List Waiter) (i : ℕ) → position (of_waiter call) ws ≡ Some i → is_some (waiter_of call ws) ≡ true
of_call call [] i e = absurd (cc)
of_call call (w ∷ ws) i e = ap (λ (r : Option Waiter). is_some r) (waiter_of-found call (w ∷ ws) i w e)

pub returns-in-None : goal.returns-in-None
returns-in-None c = sym (ap (λ (w : Option Waiter). is_some w) (waiter_of-missed c.args.call c.args.queue.now.items (sym c.in-None.ensures)))

pub returns-in-Some : goal.returns-in-Some
returns-in-Some c = sym (of_call c.args.call c.args.queue.now.items c.in-Some.field-0 (sym c.in-Some.ensures))
