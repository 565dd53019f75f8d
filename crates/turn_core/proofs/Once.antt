-- How often a call is in a cell, after each change of its turns and its queue.
use Rattle.std.proofs.Common.{◌≡◌, ℕ, false, if◌then◌else◌, ◌+◌, ◌≤◌, List, [], ◌∷◌, ◌++◌, Option, None, Some, is_some, refl, ap, ◌∙◌, arith}
use Rattle.std.specs.Prelude.{◌==◌}
use Rattle.std.proofs.lemmas.Bool.{cond_both, cond-true, cond-false, or_parts, eqb-true}
use Rattle.turn_core.specs.declared.cell.Turn.{Turn}
use Rattle.turn_core.specs.declared.cell.Waiter.{Waiter}
use Rattle.turn_core.specs.Cell.{CellState, has_turn, without_turn, waiter_of, without_waiter, first_unmoved, without_first_unmoved, all_moved, with_turn, with_waiter, begun_next, is_in_cell}
use Rattle.turn_core.specs.CellSound.{turns_of, waiters_of, times_in, HasCallsOnce}

-- one if the two are the same call
abbrev pub one_of : ℕ → ℕ → ℕ
one_of n call = if n == call then 1 else 0

pub turns_of-push : (n : ℕ) (ts : List Turn) (t : Turn) → turns_of n (ts ++ t ∷ []) ≡ turns_of n ts + one_of n t.call
turns_of-push n [] t = omega arith
turns_of-push n (u ∷ ts) t = let more = turns_of-push n ts t in omega arith

pub waiters_of-push : (n : ℕ) (ws : List Waiter) (w : Waiter) → waiters_of n (ws ++ w ∷ []) ≡ waiters_of n ws + one_of n w.call
waiters_of-push n [] w = omega arith
waiters_of-push n (v ∷ ws) w = let more = waiters_of-push n ws w in omega arith

no_turn : (n : ℕ) (ts : List Turn) → has_turn n ts ≡ false → turns_of n ts ≡ 0
no_turn n [] e = refl
no_turn n (t ∷ ts) e =
    let h = or_parts (n == t.call) (has_turn n ts) e in
    let first : one_of n t.call ≡ 0 = cond-false (n == t.call) 1 0 h.0 in
    let more = no_turn n ts h.1 in
    omega arith

no_waiter : (n : ℕ) (ws : List Waiter) → is_some (waiter_of n ws) ≡ false → waiters_of n ws ≡ 0
no_waiter n [] e = refl
no_waiter n (w ∷ ws) e =
    let more = no_waiter n ws in
    cond_both (n == w.call) (Some w) (waiter_of n ws) (λ r. is_some r ≡ false → one_of n w.call + waiters_of n ws ≡ 0)
    (λ _ q. absurd (cc))
    (λ off q. let first : one_of n w.call ≡ 0 = cond-false (n == w.call) 1 0 off in let rest = more q in omega arith) e

-- a call that isn't in the cell is there zero times
pub absent_times : (n : ℕ) (c : CellState) → is_in_cell n c ≡ false → times_in n c ≡ 0
absent_times n c e =
    let h = or_parts (has_turn n c.turns) (is_some (waiter_of n c.queue)) e in
    let t = no_turn n c.turns h.0 in
    let w = no_waiter n c.queue h.1 in
    omega arith

turns_of-without : (n call : ℕ) (ts : List Turn) → turns_of n (without_turn call ts) ≤ turns_of n ts
turns_of-without n call [] = omega arith
turns_of-without n call (t ∷ ts) =
    let more = turns_of-without n call ts in
    cond_both (call == t.call) _ _ (λ r. turns_of n r ≤ one_of n t.call + turns_of n ts) (λ _. omega arith) (λ _. omega arith)

waiters_of-without : (n call : ℕ) (ws : List Waiter) → waiters_of n (without_waiter call ws) ≤ waiters_of n ws
waiters_of-without n call [] = omega arith
waiters_of-without n call (w ∷ ws) =
    let more = waiters_of-without n call ws in
    cond_both (call == w.call) _ _ (λ r. waiters_of n r ≤ one_of n w.call + waiters_of n ws) (λ _. omega arith) (λ _. omega arith)

-- the first call that isn't moved leaves the queue
pub waiters_of-first : (n : ℕ) (ws : List Waiter) (w : Waiter) → first_unmoved ws ≡ Some w → waiters_of n ws ≡ waiters_of n (without_first_unmoved ws) + one_of n w.call
waiters_of-first n [] w e = absurd (cc)
waiters_of-first n (v ∷ ws) w e =
    let more = waiters_of-first n ws w in
    cond_both v.moved (first_unmoved ws) (Some v) (λ r. r ≡ Some w → waiters_of n (v ∷ ws) ≡ waiters_of n (without_first_unmoved (v ∷ ws)) + one_of n w.call)
    (λ m q. let rest = ap (λ (us : List Waiter). waiters_of n us) (cond-true v.moved (v ∷ without_first_unmoved ws) ws m) in let l = more q in omega arith)
    (λ m q. let rest = ap (λ (us : List Waiter). waiters_of n us) (cond-false v.moved (v ∷ without_first_unmoved ws) ws m) in let l : one_of n v.call ≡ one_of n w.call = cc in omega arith) e

pub waiters_of-all_moved : (n : ℕ) (ws : List Waiter) → waiters_of n (all_moved ws) ≡ waiters_of n ws
waiters_of-all_moved n [] = refl
waiters_of-all_moved n (w ∷ ws) = let more = waiters_of-all_moved n ws in omega arith

-- ---- what each call of a cell leaves

-- a call that wasn't in the cell is added
joined : (c : CellState) (call n after : ℕ) → HasCallsOnce c → is_in_cell call c ≡ false → after ≡ times_in n c + one_of n call → after ≤ 1
joined c call n after k absent e =
    cond_both (n == call) 1 0 (λ r. after ≡ times_in n c + r → after ≤ 1)
    (λ same q. let p = eqb-true n call same in let none : times_in n c ≡ 0 = absent_times n c (ap (λ (m : ℕ). is_in_cell m c) p ∙ absent) in omega arith)
    (λ _ q. let l = k n in omega arith) e

pub begun_once : (c : CellState) (call : ℕ) (chain : Option (List ℕ)) → HasCallsOnce c → is_in_cell call c ≡ false → HasCallsOnce (with_turn c call chain)
begun_once c call chain k absent n =
    joined c call n _ k absent (let p = turns_of-push n c.turns (record { call = call; chain = chain }) in omega arith)

pub waits_once : (c : CellState) (call : ℕ) (chain : Option (List ℕ)) → HasCallsOnce c → is_in_cell call c ≡ false → HasCallsOnce (with_waiter c call chain)
waits_once c call chain k absent n =
    joined c call n _ k absent (let p = waiters_of-push n c.queue (record { call = call; chain = chain; moved = false }) in omega arith)

pub ended_once : (c : CellState) (call : ℕ) → HasCallsOnce c → HasCallsOnce (record c { turns = without_turn call c.turns })
ended_once c call k n = let l = k n in let p = turns_of-without n call c.turns in omega arith

pub taken_once : (c : CellState) (call : ℕ) → HasCallsOnce c → HasCallsOnce (record c { queue = without_waiter call c.queue })
taken_once c call k n = let l = k n in let p = waiters_of-without n call c.queue in omega arith

pub next_once : (c : CellState) (next : Option Waiter) → first_unmoved c.queue ≡ next → HasCallsOnce c → HasCallsOnce (begun_next c next)
next_once c None e k n = k n
next_once c (Some w) e k n =
    let l = k n in
    let p = turns_of-push n c.turns (record { call = w.call; chain = w.chain }) in
    let q = waiters_of-first n c.queue w e in
    omega arith

pub moved_once : (c : CellState) → HasCallsOnce c → HasCallsOnce (record c { queue = all_moved c.queue })
moved_once c k n = let l = k n in let p = waiters_of-all_moved n c.queue in omega arith
