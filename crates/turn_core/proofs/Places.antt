-- What a search for the first element that passes a test says about the functions of the cell rule.
use Rattle.std.proofs.Common.{◌≡◌, ℕ, zero, suc, Bool, true, false, not, cond, ◌+◌, ◌<◌, ◌≤◌, List, [], ◌∷◌, length, get_or, Some, None, refl, ap, ◌∙◌, arith, position}
use Rattle.std.specs.Prelude.{◌==◌, remove}
use Rattle.std.specs.List.{position_or_len}
use Rattle.std.proofs.lemmas.Bool.{cond_both, cond-true, cond-false, ltb-false}
use Rattle.std.proofs.lemmas.List.Quantifiers.{position-Some}
use Rattle.std.proofs.lemmas.List.Sums.{fails_before_first}
use Rattle.std.proofs.lemmas.List.Recursion.{or_at, or_from_places, found_at, found_nowhere}
use Rattle.std.specs.Prelude.{nat_lt}
use Rattle.turn_core.specs.declared.cell.Turn.{Turn}
use Rattle.turn_core.specs.declared.cell.Waiter.{Waiter}
use Rattle.turn_core.specs.Cell.{has_turn, without_turn, waiter_of, place_of, without_waiter, first_unmoved, without_first_unmoved}

-- if nothing is found, no element passes
pub fails_past : {X : Type 0} (p : X → Bool) (xs : List X) → position p xs ≡ None → (k : ℕ) (d : X) → k < length xs → p (get_or xs k d) ≡ false
fails_past p xs e k d l =
    let past = cond_both (nat_lt (position_or_len p xs) (length xs)) _ _ (λ r. r ≡ None → length xs ≤ position_or_len p xs) (λ _ q. absurd (cc)) (λ g _. ltb-false _ _ g) e in
    fails_before_first p xs k d (omega arith)

pub found_within : {X : Type 0} (p : X → Bool) (xs : List X) (i : ℕ) → position p xs ≡ Some i → i < length xs
found_within p [] i e = absurd (cc)
found_within p (x ∷ xs) i e = (position-Some p (x ∷ xs) i x e).0

-- ---- a function that takes off the first element that passes

module _ {X : Type 0} (F : List X → List X) (p : X → Bool) (none : F [] ≡ []) (step : (x : X) (xs : List X) → F (x ∷ xs) ≡ cond (p x) xs (x ∷ F xs)) where
  taken_at : (xs : List X) (i : ℕ) (d : X) → i < length xs → ((k : ℕ) → k < i → p (get_or xs k d) ≡ false) → p (get_or xs i d) ≡ true → F xs ≡ remove xs i
  taken_at [] i d l before here = absurd (omega arith)
  taken_at (x ∷ xs) zero d l before here = step x xs ∙ cond-true (p x) _ _ here
  taken_at (x ∷ xs) (suc i) d l before here =
      let first = before zero (omega arith) in
      let more = taken_at xs i d (omega arith) (λ k b. before (suc k) (omega arith)) here in
      step x xs ∙ cond-false (p x) _ _ first ∙ ap (λ (ys : List X). x ∷ ys) more

  taken_nowhere : (xs : List X) → ((k : ℕ) (d : X) → k < length xs → p (get_or xs k d) ≡ false) → F xs ≡ xs
  taken_nowhere [] fails = none
  taken_nowhere (x ∷ xs) fails =
      step x xs ∙ cond-false (p x) _ _ (fails zero x (omega arith)) ∙ ap (λ (ys : List X). x ∷ ys) (taken_nowhere xs (λ k d l. fails (suc k) d (omega arith)))

  taken_found : (xs : List X) (i : ℕ) → position p xs ≡ Some i → F xs ≡ remove xs i
  taken_found [] i e = absurd (cc)
  taken_found (x ∷ xs) i e = let h = position-Some p (x ∷ xs) i x e in taken_at (x ∷ xs) i x h.0 h.2 h.1

  taken_missed : (xs : List X) → position p xs ≡ None → F xs ≡ xs
  taken_missed xs e = taken_nowhere xs (fails_past p xs e)

-- ---- open turns

abbrev pub of_turn : ℕ → Turn → Bool
of_turn call t = call == t.call

pub has_turn-found : (call : ℕ) (ts : List Turn) (i : ℕ) → position (of_turn call) ts ≡ Some i → has_turn call ts ≡ true
has_turn-found call [] i e = absurd (cc)
has_turn-found call (t ∷ ts) i e =
    let h = position-Some (of_turn call) (t ∷ ts) i t e in
    or_at (has_turn call) (of_turn call) refl (λ _ _. refl) (t ∷ ts) i t h.0 h.1

pub has_turn-missed : (call : ℕ) (ts : List Turn) → position (of_turn call) ts ≡ None → has_turn call ts ≡ false
has_turn-missed call [] e = refl
has_turn-missed call (t ∷ ts) e =
    or_from_places (has_turn call) (of_turn call) refl (λ _ _. refl) (t ∷ ts) t (λ k l. fails_past (of_turn call) (t ∷ ts) e k t l)

pub without_turn-found : (call : ℕ) (ts : List Turn) (i : ℕ) → position (of_turn call) ts ≡ Some i → without_turn call ts ≡ remove ts i
without_turn-found call ts i e = taken_found (without_turn call) (of_turn call) refl (λ _ _. refl) ts i e

pub without_turn-missed : (call : ℕ) (ts : List Turn) → position (of_turn call) ts ≡ None → without_turn call ts ≡ ts
without_turn-missed call ts e = taken_missed (without_turn call) (of_turn call) refl (λ _ _. refl) ts e

-- ---- calls in the queue

abbrev pub of_waiter : ℕ → Waiter → Bool
of_waiter call w = call == w.call

pub waiter_of-found : (call : ℕ) (ws : List Waiter) (i : ℕ) (d : Waiter) → position (of_waiter call) ws ≡ Some i → waiter_of call ws ≡ Some (get_or ws i d)
waiter_of-found call ws i d e =
    let h = position-Some (of_waiter call) ws i d e in
    found_at (waiter_of call) (of_waiter call) (λ (w : Waiter). Some w) None refl (λ _ _. refl) ws i d h.0 h.2 h.1

pub waiter_of-missed : (call : ℕ) (ws : List Waiter) → position (of_waiter call) ws ≡ None → waiter_of call ws ≡ None
waiter_of-missed call [] e = refl
waiter_of-missed call (w ∷ ws) e =
    found_nowhere (waiter_of call) (of_waiter call) (λ (w : Waiter). Some w) None refl (λ _ _. refl) (w ∷ ws) w (λ k l. fails_past (of_waiter call) (w ∷ ws) e k w l)

pub without_waiter-found : (call : ℕ) (ws : List Waiter) (i : ℕ) → position (of_waiter call) ws ≡ Some i → without_waiter call ws ≡ remove ws i
without_waiter-found call ws i e = taken_found (without_waiter call) (of_waiter call) refl (λ _ _. refl) ws i e

place_at : (call : ℕ) (ws : List Waiter) (i : ℕ) (d : Waiter) → i < length ws → ((k : ℕ) → k < i → of_waiter call (get_or ws k d) ≡ false) → of_waiter call (get_or ws i d) ≡ true → place_of call ws ≡ i + 1
place_at call [] i d l before here = absurd (omega arith)
place_at call (w ∷ ws) zero d l before here = cond-true (call == w.call) 1 (1 + place_of call ws) here
place_at call (w ∷ ws) (suc i) d l before here =
    let more = place_at call ws i d (omega arith) (λ k b. before (suc k) (omega arith)) here in
    cond-false (call == w.call) 1 (1 + place_of call ws) (before zero (omega arith)) ∙ omega arith

pub place_of-found : (call : ℕ) (ws : List Waiter) (i : ℕ) → position (of_waiter call) ws ≡ Some i → place_of call ws ≡ i + 1
place_of-found call [] i e = absurd (cc)
place_of-found call (w ∷ ws) i e = let h = position-Some (of_waiter call) (w ∷ ws) i w e in place_at call (w ∷ ws) i w h.0 h.2 h.1

-- ---- the first call that isn't moved

abbrev pub is_unmoved : Waiter → Bool
is_unmoved w = not w.moved

flipped : {A : Type 0} (b : Bool) (x y : A) → cond b x y ≡ cond (not b) y x
flipped true x y = refl
flipped false x y = refl

pub first_unmoved-found : (ws : List Waiter) (i : ℕ) (d : Waiter) → position is_unmoved ws ≡ Some i → first_unmoved ws ≡ Some (get_or ws i d)
first_unmoved-found ws i d e =
    let h = position-Some is_unmoved ws i d e in
    found_at first_unmoved is_unmoved (λ (w : Waiter). Some w) None refl (λ w vs. flipped w.moved (first_unmoved vs) (Some w)) ws i d h.0 h.2 h.1

pub first_unmoved-missed : (ws : List Waiter) → position is_unmoved ws ≡ None → first_unmoved ws ≡ None
first_unmoved-missed [] e = refl
first_unmoved-missed (w ∷ ws) e =
    found_nowhere first_unmoved is_unmoved (λ (w : Waiter). Some w) None refl (λ w vs. flipped w.moved (first_unmoved vs) (Some w)) (w ∷ ws) w (λ k l. fails_past is_unmoved (w ∷ ws) e k w l)

pub without_first-found : (ws : List Waiter) (i : ℕ) → position is_unmoved ws ≡ Some i → without_first_unmoved ws ≡ remove ws i
without_first-found ws i e = taken_found without_first_unmoved is_unmoved refl (λ w vs. flipped w.moved (w ∷ without_first_unmoved vs) vs) ws i e

pub without_first-missed : (ws : List Waiter) → position is_unmoved ws ≡ None → without_first_unmoved ws ≡ ws
without_first-missed ws e = taken_missed without_first_unmoved is_unmoved refl (λ w vs. flipped w.moved (w ∷ without_first_unmoved vs) vs) ws e
