-- The numbers that a lane keeps, with their answers, in the order in which they were accepted. Own.
use Rattle.std.specs.Prelude.{◌≡◌, ℕ, ◌==◌, if◌then◌else◌, List, [], ◌∷◌, Option, None, Some}
use Rattle.stamp_lanes.specs.declared.answer.LaneAnswer.{LaneAnswer}
use Rattle.stamp_lanes.specs.declared.answer.KeptNumber.{KeptNumber}

-- the answer that is kept of a number
abbrev pub kept_answer : ℕ → List KeptNumber → Option LaneAnswer
kept_answer number [] = None
kept_answer number (k ∷ ks) = if k.number == number then Some k.answer else kept_answer number ks

-- no number twice
abbrev pub Differ : List KeptNumber → Type 0
Differ [] = Unit {0}
Differ (k ∷ ks) = (kept_answer k.number ks ≡ None) × Differ ks

-- the first number is taken off, or there was none
abbrev pub IsWithoutFirst : List KeptNumber → List KeptNumber → Option KeptNumber → Type 0
IsWithoutFirst old new None = (old ≡ []) × (new ≡ [])
IsWithoutFirst old new (Some first) = old ≡ first ∷ new
