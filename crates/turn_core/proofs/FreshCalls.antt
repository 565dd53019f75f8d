-- A call whose number is above all those in the cell isn't in it.
use Rattle.std.proofs.Common.{◌≡◌, ℕ, Bool, false, ◌+◌, ◌<◌, List, [], ◌∷◌, ◌++◌, Option, None, is_some, refl, ap, inl, inr, arith}
use Rattle.std.specs.Prelude.{◌==◌}
use Rattle.std.proofs.lemmas.Bool.{ne_eqb, or_from, cond-false}
use Rattle.turn_core.specs.declared.cell.Turn.{Turn}
use Rattle.turn_core.specs.declared.cell.Waiter.{Waiter}
use Rattle.turn_core.specs.Cell.{CellState, AskStep, has_turn, waiter_of, is_in_cell, admit_call, kept_chain}
use Rattle.turn_core.specs.CellSound.{In}
use Rattle.turn_core.proofs.Elements.{In-push}
use Rattle.turn_core.proofs.CellSteps.{ask_cases}

-- each call in the cell has a number below n
pub record CallsBelow (n : ℕ) (c : CellState) : Type 0 where
  pub open_turns : (t : Turn) → In t c.turns → t.call < n
  pub waiters : (w : Waiter) → In w c.queue → w.call < n

not_open_above : (n : ℕ) (ts : List Turn) → ((t : Turn) → In t ts → t.call < n) → has_turn n ts ≡ false
not_open_above n [] below = refl
not_open_above n (t ∷ ts) below =
    or_from (n == t.call) (has_turn n ts) (ne_eqb n t.call (λ e. let l = below t (inl refl) in absurd (omega arith))) (not_open_above n ts (λ u i. below u (inr i)))

not_waiting_above : (n : ℕ) (ws : List Waiter) → ((w : Waiter) → In w ws → w.call < n) → waiter_of n ws ≡ None
not_waiting_above n [] below = refl
not_waiting_above n (w ∷ ws) below =
    let first = ne_eqb n w.call (λ e. let l = below w (inl refl) in absurd (omega arith)) in
    let more = not_waiting_above n ws (λ v i. below v (inr i)) in
    let step : waiter_of n (w ∷ ws) ≡ waiter_of n ws = cond-false (n == w.call) _ _ first in
    cc

pub call_above : (n : ℕ) (c : CellState) → CallsBelow n c → is_in_cell n c ≡ false
call_above n c b =
    or_from (has_turn n c.turns) (is_some (waiter_of n c.queue)) (not_open_above n c.turns b.open_turns)
    (ap (λ (w : Option Waiter). is_some w) (not_waiting_above n c.queue b.waiters))

pub ask_below : (n : ℕ) (c : CellState) (chain : Option (List ℕ)) (may_begin : Bool) → CallsBelow n c → CallsBelow (n + 1) (admit_call c n chain may_begin).cell
ask_below n c chain may_begin b =
    ask_cases c n chain may_begin (λ (s : AskStep). CallsBelow (n + 1) s.cell) (λ _ _. begun) as_before (λ _ _. begun) (λ _. waits) as_before
  where
    as_before : CallsBelow (n + 1) c
    as_before = record { open_turns = λ t i. let l = b.open_turns t i in omega arith; waiters = λ w i. let l = b.waiters w i in omega arith }

    begun : CallsBelow (n + 1) (record c { turns = c.turns ++ record { call = n; chain = kept_chain c chain } ∷ [] })
    begun = record {
      open_turns = λ t i. elim (In-push c.turns _ t i) [ inl old ↦ (let l = b.open_turns t old in omega arith) | inr new ↦ (let l = ap (λ (z : Turn). z.call) new in omega arith) ];
      waiters = as_before.waiters;
    }

    waits : CallsBelow (n + 1) (record c { queue = c.queue ++ record { call = n; chain = kept_chain c chain; moved = false } ∷ [] })
    waits = record {
      open_turns = as_before.open_turns;
      waiters = λ w i. elim (In-push c.queue _ w i) [ inl old ↦ (let l = b.waiters w old in omega arith) | inr new ↦ (let l = ap (λ (z : Waiter). z.call) new in omega arith) ];
    }
