-- Whether a call is in a cell, by how often it is there, and how many calls a cell has.
use Rattle.std.proofs.Common.{◌≡◌, ◌⊎◌, ℕ, ◌+◌, ◌<◌, Bool, true, false, ◌||◌, List, [], ◌∷◌, length, Option, Some, is_some, refl, sym, ap, ◌∙◌, inl, inr, arith}
use Rattle.std.specs.Prelude.{◌==◌}
use Rattle.std.proofs.lemmas.Bool.{cond_both, cond-true, cond-false, or_cases, eq-eqb, true≢false}
use Rattle.turn_core.specs.declared.cell.Turn.{Turn}
use Rattle.turn_core.specs.declared.cell.Waiter.{Waiter}
use Rattle.turn_core.specs.Cell.{CellState, has_turn, waiter_of, is_in_cell}
use Rattle.turn_core.specs.CellSound.{turns_of, waiters_of, times_in, HasCallsOnce}
use Rattle.turn_core.proofs.Once.{one_of, absent_times}

pub has_or_not : (b : Bool) → (b ≡ true) ⊎ (b ≡ false)
has_or_not true = inl refl
has_or_not false = inr refl

-- how many calls of a cell are open or wait
abbrev pub calls_of : CellState → ℕ
calls_of c = length c.turns + length c.queue

no_turns : (n : ℕ) (ts : List Turn) → turns_of n ts ≡ 0 → has_turn n ts ≡ false
no_turns n [] e = refl
no_turns n (t ∷ ts) e =
    cond_both (n == t.call) 1 0 (λ r. r + turns_of n ts ≡ 0 → ((n == t.call) || has_turn n ts) ≡ false)
    (λ _ q. absurd (omega (arith, q)))
    (λ off q. (λ i. off i || no_turns n ts (omega (arith, q)) i)) e

no_waiters : (n : ℕ) (ws : List Waiter) → waiters_of n ws ≡ 0 → is_some (waiter_of n ws) ≡ false
no_waiters n [] e = refl
no_waiters n (w ∷ ws) e =
    let more = no_waiters n ws in
    cond_both (n == w.call) 1 0 (λ r. r + waiters_of n ws ≡ 0 → is_some (waiter_of n (w ∷ ws)) ≡ false)
    (λ _ q. absurd (omega (arith, q)))
    (λ off q. ap (λ (r : Option Waiter). is_some r) (cond-false (n == w.call) (Some w) (waiter_of n ws) off) ∙ more (omega (arith, q))) e

-- a call that is there zero times isn't in the cell
pub absent_at_zero : (n : ℕ) (c : CellState) → times_in n c ≡ 0 → is_in_cell n c ≡ false
absent_at_zero n c e = λ i. no_turns n c.turns (omega (arith, e)) i || no_waiters n c.queue (omega (arith, e)) i

-- as often in one cell as in the other
pub same_presence : (n : ℕ) (c d : CellState) → times_in n d ≡ times_in n c → is_in_cell n d ≡ is_in_cell n c
same_presence n c d e =
    elim (has_or_not (is_in_cell n c)) [
      | inl t ↦ elim (has_or_not (is_in_cell n d)) [
        | inl u ↦ u ∙ sym t
        | inr f ↦ absurd (true≢false (sym t ∙ absent_at_zero n c (sym e ∙ absent_times n d f)))
      ]
      | inr f ↦ absent_at_zero n d (e ∙ absent_times n c f) ∙ sym f
    ]

-- a call that is there some times is in the cell
present_at_some : (n : ℕ) (c : CellState) → 0 < times_in n c → is_in_cell n c ≡ true
present_at_some n c l = elim (has_or_not (is_in_cell n c)) [ inl t ↦ t | inr f ↦ (let z = absent_times n c f in absurd (omega arith)) ]

one_itself : (call : ℕ) → one_of call call ≡ 1
one_itself call = cond-true (call == call) 1 0 (eq-eqb call call refl)

one_other : (n call : ℕ) → (n == call) ≡ false → one_of n call ≡ 0
one_other n call f = cond-false (n == call) 1 0 f

-- ---- a change of a cell: this call leaves it, or joins it, or none does

pub record LeavesCell (call : ℕ) (c d : CellState) : Type 0 where
  pub times : (n : ℕ) → times_in n d + one_of n call ≡ times_in n c
  pub fewer : calls_of d + 1 ≡ calls_of c

pub record JoinsCell (call : ℕ) (c d : CellState) : Type 0 where
  pub times : (n : ℕ) → times_in n d ≡ times_in n c + one_of n call
  pub more : calls_of d ≡ calls_of c + 1

pub record KeepsCalls (c d : CellState) : Type 0 where
  pub times : (n : ℕ) → times_in n d ≡ times_in n c
  pub as_many : calls_of d ≡ calls_of c

pub kept_presence : (c d : CellState) → KeepsCalls c d → (n : ℕ) → is_in_cell n d ≡ is_in_cell n c
kept_presence c d k n = same_presence n c d (k.times n)

module _ (call : ℕ) (c d : CellState) (l : LeavesCell call c d) where
  pub left_was : is_in_cell call c ≡ true
  left_was = let t = l.times call in let one = one_itself call in present_at_some call c (omega arith)

  pub left_gone : HasCallsOnce c → is_in_cell call d ≡ false
  left_gone once = let t = l.times call in let o = once call in let one = one_itself call in absent_at_zero call d (omega arith)

  pub left_others : (n : ℕ) → (n == call) ≡ false → is_in_cell n d ≡ is_in_cell n c
  left_others n f = let t = l.times n in let none = one_other n call f in same_presence n c d (omega arith)

module _ (call : ℕ) (c d : CellState) (j : JoinsCell call c d) where
  pub joined_mine : is_in_cell call d ≡ true
  joined_mine = let t = j.times call in let one = one_itself call in present_at_some call d (omega arith)

  pub joined_others : (n : ℕ) → (n == call) ≡ false → is_in_cell n d ≡ is_in_cell n c
  joined_others n f = let t = j.times n in let none = one_other n call f in same_presence n c d (omega arith)

-- ---- every turn ends

some_turn : (n : ℕ) (ts : List Turn) → has_turn n ts ≡ true → 0 < turns_of n ts
some_turn n [] e = absurd (true≢false (sym e))
some_turn n (t ∷ ts) e =
    elim (or_cases (n == t.call) (has_turn n ts) e) [
      | inl s ↦ (let one : one_of n t.call ≡ 1 = cond-true (n == t.call) 1 0 s in omega arith)
      | inr r ↦ (let more = some_turn n ts r in omega arith)
    ]

some_waiter : (n : ℕ) (ws : List Waiter) → is_some (waiter_of n ws) ≡ true → 0 < waiters_of n ws
some_waiter n [] e = absurd (true≢false (sym e))
some_waiter n (w ∷ ws) e =
    let more = some_waiter n ws in
    cond_both (n == w.call) (Some w) (waiter_of n ws) (λ r. is_some r ≡ true → 0 < one_of n w.call + waiters_of n ws)
    (λ s _. (let one : one_of n w.call ≡ 1 = cond-true (n == w.call) 1 0 s in omega arith))
    (λ _ q. (let m = more q in omega arith)) e

-- a call with an open turn doesn't wait
pub open_only : (n : ℕ) (c : CellState) → HasCallsOnce c → has_turn n c.turns ≡ true → is_some (waiter_of n c.queue) ≡ false
open_only n c once h =
    elim (has_or_not (is_some (waiter_of n c.queue))) [
      | inl w ↦ (
          let o = once n in
          let a = some_turn n c.turns h in
          let b = some_waiter n c.queue w in
          absurd (omega arith)
          )
      | inr f ↦ f
    ]
