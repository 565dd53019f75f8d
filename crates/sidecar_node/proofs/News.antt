-- New gates and their seats.
use Rattle.std.proofs.Common.{◌≡◌, ℕ, List, [], ◌∷◌, ◌++◌, length, Result, Ok, Err, IfOk, sym, subst}
use Rattle.step_gate.specs.declared.gate.Gate.{Gate}
use Rattle.step_gate.specs.Gates.{SeatOf, IsSeatOf, opening_of, seen_of, mine_of}
use Rattle.sidecar_node.specs.Rows.{Along, AreSeatsOf, IsNewAt}
use Rattle.sidecar_node.proofs.Places.{along_map, along_push}

-- what a new gate told
pub new_told : {S E R X : Type 0} (moves : S → E → R → S → Type 0) (machine : S) (said : Result (Gate S E R × SeatOf S E R) X)
    → IfOk said (λ r. IsSeatOf moves r.0 r.1) → IfOk said (λ r. opening_of r.0 ≡ machine) → IfOk said (λ r. (seen_of r.1 ≡ []) × (mine_of r.1 ≡ [])) → IfOk said (λ r. IsNewAt moves machine r.0 r.1)
new_told moves machine (Ok r) a b c = record { seat_of = a; opening_is = b; seen = c.0; mine = c.1 }
new_told moves machine (Err e) a b c = tt

pub new_seats : {S E R : Type 0} (moves : S → E → R → S → Type 0) (opening : ℕ → S) (gates : List (Gate S E R)) (seats : List (SeatOf S E R)) → Along (λ k (gate : Gate S E R) (seat : SeatOf S E R). IsNewAt moves (opening k) gate seat) gates seats → AreSeatsOf moves gates seats
new_seats {S = S} {E = E} {R = R} moves opening gates seats h = along_map (λ k (gate : Gate S E R) (seat : SeatOf S E R). IsNewAt moves (opening k) gate seat) (λ k (gate : Gate S E R) (seat : SeatOf S E R). IsSeatOf moves gate seat) gates seats h (λ k gate seat n. n.seat_of)

-- each of two rows got one more
pub along_pushed : {A B : Type 0} (R : ℕ → A → B → Type 0) (n : ℕ) (xs more_xs : List A) (ys more_ys : List B) (x : A) (y : B)
    → length xs ≡ n → more_xs ≡ xs ++ x ∷ [] → more_ys ≡ ys ++ y ∷ [] → Along R xs ys → R n x y → Along R more_xs more_ys
along_pushed {A = A} {B = B} R n xs more_xs ys more_ys x y many e f r here =
    subst (λ (p : List A × List B). Along R p.0 p.1) (λ i. (sym e i, sym f i)) (along_push R xs ys x y r (subst (λ (k : ℕ). R k x y) (sym many) here))
