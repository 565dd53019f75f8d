-- Which numbers the calls of a cell have after each change of it.
use Rattle.std.proofs.Common.{◌≡◌, ℕ, ◌+◌, ◌≤◌, Bool, false, ◌&&◌, List, [], ◌∷◌, Option, None, Some, refl, ap, inl, inr, arith}
use Rattle.std.proofs.lemmas.Bool.{cond_both}
use Rattle.turn_core.specs.declared.cell.Turn.{Turn}
use Rattle.turn_core.specs.declared.cell.Waiter.{Waiter}
use Rattle.std.specs.declared.result.Result.{Result}
use Rattle.std.specs.declared.result.Result.TheVariants.{Ok, Err}
use Rattle.turn_core.specs.declared.answer.Asked.{Asked}
use Rattle.turn_core.specs.declared.answer.CellError.{CellError}
use Rattle.turn_core.specs.declared.answer.CellError.TheVariants as deny
use Rattle.turn_core.specs.Cell.{GivesStep, CellState, AskStep, EndStep, PollStep, new_cell, has_turn, is_free, is_in_cell, admit_call, begun_next, next_call, without_call, waiter_of, cell_end, poll_waiter, cell_poll, with_hold, without_hold, with_queue_moved, without_turns, all_moved}
use Rattle.turn_core.specs.CellSound.{In}
use Rattle.turn_core.proofs.Elements.{In-push, In-without_turn, In-without_waiter, In-without_first}
use Rattle.turn_core.proofs.CellSteps.{In-first_unmoved, ask_cases}
use Rattle.turn_core.proofs.FreshCalls.{CallsBelow, call_above, ask_below}
use Rattle.part_core.specs.Actors.{IsNumbered}

pub numbered_new : (n depth : ℕ) → IsNumbered n (new_cell depth)
numbered_new n depth = record { open_turns = λ t i. absurd i; waiters = λ w i. absurd i; held = omega arith }

pub numbered_more : (n m : ℕ) (c : CellState) → n ≤ m → IsNumbered n c → IsNumbered m c
numbered_more n m c l k =
    record {
      open_turns = λ t i. let h = k.open_turns t i in omega arith;
      waiters = λ w i. let h = k.waiters w i in omega arith;
      held = (let h = k.held in omega arith);
    }

below : (n : ℕ) (c : CellState) → IsNumbered n c → CallsBelow (n + 1) c
below n c k = record { open_turns = λ t i. let h = k.open_turns t i in omega arith; waiters = λ w i. let h = k.waiters w i in omega arith }

-- a new number is that of no call in the cell
pub numbered_absent : (n : ℕ) (c : CellState) → IsNumbered n c → is_in_cell (n + 1) c ≡ false
numbered_absent n c k = call_above (n + 1) c (below n c k)

holds-admit_call : (c : CellState) (call : ℕ) (chain : Option (List ℕ)) (may_begin : Bool) → (admit_call c call chain may_begin).cell.holds ≡ c.holds
holds-admit_call c call chain may_begin = ask_cases c call chain may_begin (λ (s : AskStep). s.cell.holds ≡ c.holds) (λ _ _. refl) refl (λ _ _. refl) (λ _. refl) refl

pub numbered_asked : (n : ℕ) (c : CellState) (chain : Option (List ℕ)) (may_begin : Bool) → IsNumbered n c → IsNumbered (n + 1) (admit_call c (n + 1) chain may_begin).cell
numbered_asked n c chain may_begin k =
    let b = ask_below (n + 1) c chain may_begin (below n c k) in
    record {
      open_turns = λ t i. let h = b.open_turns t i in omega arith;
      waiters = λ w i. let h = b.waiters w i in omega arith;
      held = (let h = k.held in let e = holds-admit_call c (n + 1) chain may_begin in omega arith);
    }

pub numbered_gives : (n : ℕ) (old new : CellState) (chain : Option (List ℕ)) (may_begin : Bool) (answer : Result Asked CellError)
    → GivesStep answer old new (admit_call old (n + 1) chain may_begin) → IsNumbered n old → IsNumbered (n + 1) new
numbered_gives n old new chain may_begin (Ok a) g k = rw g.1 (numbered_asked n old chain may_begin k)
numbered_gives n old new chain may_begin (Err (deny.Depth turns)) g k = rw g.1 (numbered_asked n old chain may_begin k)
numbered_gives n old new chain may_begin (Err (deny.QueueFull m)) g k = rw g.1 (numbered_asked n old chain may_begin k)
numbered_gives n old new chain may_begin (Err deny.OutOfMemory) g k = rw g (numbered_more n (n + 1) old (omega arith) k)

-- the first call of the queue begins
pub numbered_next : (n : ℕ) (c : CellState) (next : Option Waiter) → ((w : Waiter) → next ≡ Some w → In w c.queue) → IsNumbered n c → IsNumbered n (begun_next c next)
numbered_next n c None here k = k
numbered_next n c (Some w) here k =
    record {
      open_turns = λ t i. elim (In-push c.turns _ t i) [
        | inl old ↦ k.open_turns t old
        | inr new ↦ (let l = k.waiters w (here w refl) in let e = ap (λ (z : Turn). z.call) new in omega arith)
      ];
      waiters = λ v i. k.waiters v (In-without_first c.queue v i);
      held = k.held;
    }

pub next_in_queue : (may_begin : Bool) (c : CellState) (w : Waiter) → next_call may_begin c ≡ Some w → In w c.queue
next_in_queue may_begin c w e = cond_both (may_begin && is_free c) _ _ (λ r. r ≡ Some w → In w c.queue) (λ _ q. In-first_unmoved c.queue w q) (λ _ q. absurd (cc)) e

pub numbered_end : (n : ℕ) (c : CellState) (call : ℕ) (may_begin : Bool) → IsNumbered n c → IsNumbered n (cell_end c call may_begin).cell
numbered_end n c call may_begin k =
    cond_both (has_turn call c.turns) _ _ (λ (s : EndStep). IsNumbered n s.cell)
    (λ _. numbered_next n (without_call c call) (next_call may_begin (without_call c call)) (next_in_queue may_begin (without_call c call))
    (record { open_turns = λ t i. k.open_turns t (In-without_turn call c.turns t i); waiters = k.waiters; held = k.held }))
    (λ _. k)

pub numbered_poll : (n : ℕ) (c : CellState) (call : ℕ) → IsNumbered n c → IsNumbered n (cell_poll c call).cell
numbered_poll n c call k = cond_both (has_turn call c.turns) _ _ (λ (s : PollStep). IsNumbered n s.cell) (λ _. k) (λ _. in_queue (waiter_of call c.queue))
  where
    in_queue : (found : Option Waiter) → IsNumbered n (poll_waiter c call found).cell
    in_queue None = k
    in_queue (Some w) =
        cond_both w.moved _ _ (λ (s : PollStep). IsNumbered n s.cell)
        (λ _. record { open_turns = k.open_turns; waiters = λ v i. k.waiters v (In-without_waiter call c.queue v i); held = k.held })
        (λ _. k)

pub numbered_hold : (n : ℕ) (c : CellState) → IsNumbered n c → IsNumbered (n + 1) (with_hold c)
numbered_hold n c k =
    record {
      open_turns = λ t i. let h = k.open_turns t i in omega arith;
      waiters = λ w i. let h = k.waiters w i in omega arith;
      held = (let h = k.held in omega arith);
    }

pub numbered_release : (n : ℕ) (c : CellState) → IsNumbered n c → IsNumbered n (without_hold c)
numbered_release n c k = record { open_turns = k.open_turns; waiters = k.waiters; held = (let h = k.held in omega arith) }

pub call-all_moved : (ws : List Waiter) (w : Waiter) → In w (all_moved ws) → (v : Waiter) × In v ws × (v.call ≡ w.call)
call-all_moved [] w i = absurd i
call-all_moved (v ∷ ws) w (inl e) = (v, inl refl, let q = ap (λ (z : Waiter). z.call) e in cc)
call-all_moved (v ∷ ws) w (inr i) = let m = call-all_moved ws w i in (m.0, inr m.1, m.2)

pub numbered_moved : (n : ℕ) (c : CellState) → IsNumbered n c → IsNumbered n (with_queue_moved c)
numbered_moved n c k =
    record {
      open_turns = k.open_turns;
      waiters = λ w i. let m = call-all_moved c.queue w i in let h = k.waiters m.0 m.1 in let e = m.2 in omega arith;
      held = k.held;
    }

pub numbered_stopped : (n : ℕ) (c : CellState) → IsNumbered n c → IsNumbered n (without_turns c)
numbered_stopped n c k = record { open_turns = λ t i. absurd i; waiters = k.waiters; held = k.held }
