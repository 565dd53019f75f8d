-- The next call at an end, and how many calls begin.
use Rattle.std.proofs.Common.{◌≡◌, ℕ, ◌<◌, ◌≤◌, Bool, true, ◌&&◌, List, [], ◌∷◌, length, Option, None, Some, refl, sym, ap, ◌∙◌, arith}
use Rattle.std.specs.Prelude.{if◌then◌else◌, option_map}
use Rattle.std.proofs.lemmas.Bool.{cond_both}
use Rattle.turn_core.specs.declared.cell.Waiter.{Waiter}
use Rattle.turn_core.specs.declared.answer.CellEnd.TheVariants as ending
use Rattle.turn_core.specs.Cell.{CellState, EndStep, has_turn, waiter_of, first_unmoved, is_free, next_call, begun_next, call_of, without_call, not_open, cell_end}
use Rattle.part_core.specs.Actors.{begun_next_in}

-- ---- an end

-- whether the next call may begin makes no difference if none waits
pub end_of_empty_queue : (c : CellState) (call : ℕ) (a b : Bool) → c.queue ≡ [] → cell_end c call a ≡ cell_end c call b
end_of_empty_queue c call a b e =
    let none : (m : Bool) → next_call m (without_call c call) ≡ None = λ m. cond_both (m && is_free (without_call c call)) _ _ (λ (r : Option Waiter). r ≡ None) (λ _. ap first_unmoved e) (λ _. refl) in
    let same : next_call a (without_call c call) ≡ next_call b (without_call c call) = none a ∙ sym (none b) in
    ap (λ (r : Option Waiter). if has_turn call c.turns then (let s : EndStep = record { cell = begun_next (without_call c call) r; answer = ending.Ended (option_map call_of r) } in s) else record { cell = c; answer = not_open (waiter_of call c.queue) }) same

not_ended : (found : Option Waiter) (next : Option ℕ) → not_open found ≡ ending.Ended next → ⊥
not_ended None next e = cc
not_ended (Some w) next e = cc

-- if an end ended a turn, the call was open, and this is the next call
pub end_ended : (c : CellState) (call : ℕ) (b : Bool) (next : Option ℕ) → (cell_end c call b).answer ≡ ending.Ended next → (has_turn call c.turns ≡ true) × (next ≡ option_map call_of (next_call b (without_call c call)))
end_ended c call b next e =
    cond_both (has_turn call c.turns) _ _ (λ (s : EndStep). s.answer ≡ ending.Ended next → (has_turn call c.turns ≡ true) × (next ≡ option_map call_of (next_call b (without_call c call))))
    (λ h q. (h, cc))
    (λ _ q. absurd (not_ended (waiter_of call c.queue) next q))
    e

-- whether the next call may begin matters only if one waits
pub end_same : (c : CellState) (call : ℕ) (a b : Bool) → (0 < length c.queue → a ≡ b) → cell_end c call a ≡ cell_end c call b
end_same c call a b h = go c.queue refl
  where
    go : (ws : List Waiter) → c.queue ≡ ws → cell_end c call a ≡ cell_end c call b
    go [] e = end_of_empty_queue c call a b e
    go (w ∷ ws) e = ap (λ (m : Bool). cell_end c call m) (h (let l = ap (λ (z : List Waiter). length z) e in omega arith))

-- ---- the call that begins next

pub begun-short : (next : Option ℕ) → length (begun_next_in next) ≤ 1
begun-short None = omega arith
begun-short (Some call) = omega arith

first-in_queue : (ws : List Waiter) (w : Waiter) → first_unmoved ws ≡ Some w → 1 ≤ length ws
first-in_queue [] w e = absurd (cc)
first-in_queue (v ∷ ws) w e = omega arith

pub begun-in_queue : (c : CellState) (b : Bool) → length (begun_next_in (option_map call_of (next_call b c))) ≤ length c.queue
begun-in_queue c b = cond_both (b && is_free c) _ _ (λ (r : Option Waiter). length (begun_next_in (option_map call_of r)) ≤ length c.queue) (λ _. go (first_unmoved c.queue) refl) (λ _. omega arith)
  where
    go : (r : Option Waiter) → first_unmoved c.queue ≡ r → length (begun_next_in (option_map call_of r)) ≤ length c.queue
    go None e = omega arith
    go (Some w) e = let l = first-in_queue c.queue w e in omega arith
