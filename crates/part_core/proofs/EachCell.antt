-- The calls in marks.
use Rattle.std.proofs.Common.{◌≡◌, ℕ, List, [], ◌∷◌, ◌++◌, refl, ap}
use Rattle.part_model.specs.Marks.{PartMark, TurnBegan, TurnEnded, BecameActive, BecameInactive, PartOpened, begun_calls, ended_calls}

pub begun-append : (xs ys : List PartMark) → begun_calls (xs ++ ys) ≡ begun_calls xs ++ begun_calls ys
begun-append [] ys = refl
begun-append (TurnBegan key call chain ∷ xs) ys = ap (λ (l : List ℕ). call ∷ l) (begun-append xs ys)
begun-append (TurnEnded key call ∷ xs) ys = begun-append xs ys
begun-append (BecameActive key version ∷ xs) ys = begun-append xs ys
begun-append (BecameInactive key ∷ xs) ys = begun-append xs ys
begun-append (PartOpened number version ∷ xs) ys = begun-append xs ys

pub ended-append : (xs ys : List PartMark) → ended_calls (xs ++ ys) ≡ ended_calls xs ++ ended_calls ys
ended-append [] ys = refl
ended-append (TurnEnded key call ∷ xs) ys = ap (λ (l : List ℕ). call ∷ l) (ended-append xs ys)
ended-append (TurnBegan key call chain ∷ xs) ys = ended-append xs ys
ended-append (BecameActive key version ∷ xs) ys = ended-append xs ys
ended-append (BecameInactive key ∷ xs) ys = ended-append xs ys
ended-append (PartOpened number version ∷ xs) ys = ended-append xs ys

pub append_nil : (xs : List ℕ) → xs ++ [] ≡ xs
append_nil [] = refl
append_nil (x ∷ xs) = ap (λ (l : List ℕ). x ∷ l) (append_nil xs)
