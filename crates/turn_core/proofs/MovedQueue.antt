-- A queue whose first calls are marked as moved, one after another.
use Rattle.std.proofs.Common.{◌≡◌, ℕ, zero, suc, Bool, true, false, if◌then◌else◌, ◌+◌, ◌<◌, List, [], ◌∷◌, ◌++◌, length, get_or, set, take, drop, refl, ap, ◌∙◌, arith, add-one}
use Rattle.std.proofs.lemmas.List.{at_drop_more}
use Rattle.turn_core.specs.declared.cell.Waiter.{Waiter}
use Rattle.turn_core.specs.Cell.{all_moved, unmoved}

-- the queue with its first i calls marked
abbrev pub moved_to : ℕ → List Waiter → List Waiter
moved_to i ws = all_moved (take i ws) ++ drop i ws

abbrev pub marked : Waiter → Waiter
marked w = record w { moved = true }

at_suc : (ws : List Waiter) (i : ℕ) (d : Waiter) → i < length ws → moved_to (suc i) ws ≡ set (moved_to i ws) i (marked (get_or ws i d))
at_suc [] i d l = absurd (omega arith)
at_suc (w ∷ ws) zero d l = refl
at_suc (w ∷ ws) (suc i) d l = ap (λ (vs : List Waiter). marked w ∷ vs) (at_suc ws i d (omega arith))

-- the next call is as it was
pub read_moved_to : (ws : List Waiter) (i : ℕ) (d : Waiter) → i < length ws → get_or (moved_to i ws) i d ≡ get_or ws i d
read_moved_to [] i d l = absurd (omega arith)
read_moved_to (w ∷ ws) zero d l = refl
read_moved_to (w ∷ ws) (suc i) d l = read_moved_to ws i d (omega arith)

-- one more call is marked
pub moved_to-more : (ws vs : List Waiter) (i : ℕ) (d : Waiter) → i < length ws → moved_to i ws ≡ vs → moved_to (i + 1) ws ≡ set vs i (marked (get_or vs i d))
moved_to-more ws vs i d l e =
    let first : moved_to (suc i) ws ≡ set (moved_to i ws) i (marked (get_or ws i d)) = at_suc ws i d l in
    let read = read_moved_to ws i d l in
    rw (add-one, ← e, read) first

pub unmoved-more : (ws : List Waiter) (i : ℕ) (d : Waiter) → i < length ws → unmoved (drop i ws) ≡ (if (get_or ws i d).moved then 0 else 1) + unmoved (drop (i + 1) ws)
unmoved-more ws i d l = at_drop_more unmoved ws i d l ∙ split (get_or ws i d).moved (unmoved (drop (i + 1) ws))
  where
    split : (b : Bool) (n : ℕ) → (if b then n else 1 + n) ≡ (if b then 0 else 1) + n
    split true n = omega arith
    split false n = refl
