-- Which calls a cell has after each change of it: those that it had, and the one that is asked.
use Rattle.std.proofs.Common.{◌≡◌, ◌⊎◌, ℕ, ◌+◌, ◌≤◌, true, false, List, [], ◌∷◌, Option, Some, sym, ◌∙◌, inl, inr, arith}
use Rattle.std.specs.Prelude.{◌==◌}
use Rattle.std.proofs.lemmas.Bool.{cond_both, cond-false, eqb-true, true≢false}
use Rattle.turn_core.specs.declared.cell.Turn.{Turn}
use Rattle.turn_core.specs.declared.cell.Waiter.{Waiter}
use Rattle.turn_core.specs.Cell.{CellState, without_turn, without_waiter, first_unmoved, with_turn, with_waiter, begun_next, without_call, without_turns, with_queue_moved, is_in_cell}
use Rattle.turn_core.specs.CellSound.{turns_of, waiters_of, times_in}
use Rattle.turn_core.proofs.Once.{one_of, turns_of-push, waiters_of-push, absent_times}
use Rattle.turn_core.proofs.Presence.{has_or_not, absent_at_zero, kept_presence}
use Rattle.turn_core.proofs.Leaves.{next_keeps, moved_keeps}

-- each call of the second cell is one of the first
abbrev pub GetsNoCall : CellState → CellState → Type 0
GetsNoCall c d = (n : ℕ) → is_in_cell n d ≡ true → is_in_cell n c ≡ true

no_more : (n : ℕ) (c d : CellState) → times_in n d ≤ times_in n c → is_in_cell n d ≡ true → is_in_cell n c ≡ true
no_more n c d l h =
    elim (has_or_not (is_in_cell n c)) [
      | inl t ↦ t
      | inr f ↦ (let z = absent_times n c f in absurd (true≢false (sym h ∙ absent_at_zero n d (omega arith))))
    ]

-- ---- a call is asked

no_other : (n call : ℕ) (c d : CellState) → times_in n d ≡ times_in n c + one_of n call → is_in_cell n d ≡ true → (is_in_cell n c ≡ true) ⊎ (n ≡ call)
no_other n call c d e h =
    elim (has_or_not (n == call)) [
      | inl t ↦ inr (eqb-true n call t)
      | inr f ↦ inl (no_more n c d (let z : one_of n call ≡ 0 = cond-false (n == call) 1 0 f in omega arith) h)
    ]

pub turn_joins : (c : CellState) (call : ℕ) (chain : Option (List ℕ)) (n : ℕ) → is_in_cell n (with_turn c call chain) ≡ true → (is_in_cell n c ≡ true) ⊎ (n ≡ call)
turn_joins c call chain n h =
    no_other n call c (with_turn c call chain) (let p = turns_of-push n c.turns (record { call = call; chain = chain }) in omega arith) h

pub waiter_joins : (c : CellState) (call : ℕ) (chain : Option (List ℕ)) (n : ℕ) → is_in_cell n (with_waiter c call chain) ≡ true → (is_in_cell n c ≡ true) ⊎ (n ≡ call)
waiter_joins c call chain n h =
    no_other n call c (with_waiter c call chain) (let p = waiters_of-push n c.queue (record { call = call; chain = chain; moved = false }) in omega arith) h

-- ---- a turn ends, a moved call is polled, every turn ends

fewer_turns : (n call : ℕ) (ts : List Turn) → turns_of n (without_turn call ts) ≤ turns_of n ts
fewer_turns n call [] = omega arith
fewer_turns n call (t ∷ ts) =
    let more = fewer_turns n call ts in
    cond_both (call == t.call) _ _ (λ r. turns_of n r ≤ one_of n t.call + turns_of n ts) (λ _. omega arith) (λ _. omega arith)

fewer_waiters : (n call : ℕ) (ws : List Waiter) → waiters_of n (without_waiter call ws) ≤ waiters_of n ws
fewer_waiters n call [] = omega arith
fewer_waiters n call (w ∷ ws) =
    let more = fewer_waiters n call ws in
    cond_both (call == w.call) _ _ (λ r. waiters_of n r ≤ one_of n w.call + waiters_of n ws) (λ _. omega arith) (λ _. omega arith)

pub ended_gets : (c : CellState) (call : ℕ) → GetsNoCall c (without_call c call)
ended_gets c call n h = no_more n c (without_call c call) (let l = fewer_turns n call c.turns in omega arith) h

pub polled_gets : (c : CellState) (call : ℕ) → GetsNoCall c (record c { queue = without_waiter call c.queue })
polled_gets c call n h = no_more n c (record c { queue = without_waiter call c.queue }) (let l = fewer_waiters n call c.queue in omega arith) h

pub stopped_gets : (c : CellState) → GetsNoCall c (without_turns c)
stopped_gets c n h = no_more n c (without_turns c) (omega arith) h

-- ---- a waiting call begins, or all are moved

pub begun_gets : (c : CellState) (w : Waiter) → first_unmoved c.queue ≡ Some w → GetsNoCall c (begun_next c (Some w))
begun_gets c w e n h = sym (kept_presence c (begun_next c (Some w)) (next_keeps c (Some w) (inr (sym e))) n) ∙ h

pub moved_gets : (c : CellState) → GetsNoCall c (with_queue_moved c)
moved_gets c n h = sym (kept_presence c (with_queue_moved c) (moved_keeps c) n) ∙ h
