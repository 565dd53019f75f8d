-- The answers that are kept in two pieces of a list. Own.
use Rattle.std.proofs.Common.{◌≡◌, ℕ, Bool, true, false, ◌==◌, if◌then◌else◌, List, [], ◌∷◌, ◌++◌, Option, None, Some, refl}
use Rattle.stamp_lanes.specs.declared.answer.LaneAnswer.{LaneAnswer}
use Rattle.stamp_lanes.specs.declared.answer.KeptNumber.{KeptNumber}
use Rattle.stamp_lanes.specs.Kept.{kept_answer}

pub in-first : (number : ℕ) (xs ys : List KeptNumber) (answer : LaneAnswer) → kept_answer number xs ≡ Some answer → kept_answer number (xs ++ ys) ≡ Some answer
in-first number [] ys answer h = absurd (cc)
in-first number (k ∷ xs) ys answer h = go (in-first number xs ys answer) (k.number == number) refl
  where
    go : (kept_answer number xs ≡ Some answer → kept_answer number (xs ++ ys) ≡ Some answer) → (b : Bool) → (k.number == number) ≡ b → kept_answer number ((k ∷ xs) ++ ys) ≡ Some answer
    go again true t = let said : Some k.answer ≡ Some answer = rw t at h in rw t said
    go again false t = let said : kept_answer number xs ≡ Some answer = rw t at h in rw t (again said)

pub in-second : (number : ℕ) (xs ys : List KeptNumber) → kept_answer number xs ≡ None → kept_answer number (xs ++ ys) ≡ kept_answer number ys
in-second number [] ys h = refl
in-second number (k ∷ xs) ys h = go (in-second number xs ys) (k.number == number) refl
  where
    go : (kept_answer number xs ≡ None → kept_answer number (xs ++ ys) ≡ kept_answer number ys) → (b : Bool) → (k.number == number) ≡ b → kept_answer number ((k ∷ xs) ++ ys) ≡ kept_answer number ys
    go again true t = absurd (let said : Some k.answer ≡ None = rw t at h in cc)
    go again false t = let said : kept_answer number xs ≡ None = rw t at h in rw t (again said)
