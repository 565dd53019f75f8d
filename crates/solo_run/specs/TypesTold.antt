-- What contracts see of the types with reentrancy and their depths.
use Rattle.std.specs.Prelude.{◌≡◌, ◌≤◌, ℕ, List, [], ◌∷◌, length, All}
use Rattle.turn_core.specs.Cell.{greatest_depth}
use Rattle.solo_run.specs.World.{TypeDepth}

abbrev pub depths_told : List (List ℕ) → List ℕ → List TypeDepth
depths_told [] depths = []
depths_told (kind ∷ kinds) [] = []
depths_told (kind ∷ kinds) (depth ∷ depths) = record { kind = kind; depth = depth } ∷ depths_told kinds depths

pub record AreDepthsKept (kinds : List (List ℕ)) (depths : List ℕ) : Type 0 where
  pub each : length depths ≡ length kinds
  pub shallow : All (λ depth. depth ≤ greatest_depth) depths
