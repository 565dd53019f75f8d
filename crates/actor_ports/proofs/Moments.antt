-- The bound of moments that never fall.
use Rattle.std.proofs.Common.{◌<◌, ℕ, List, [], ◌∷◌, arith}
use Rattle.actor_ports.specs.Memory.{Rises}

-- the first isn't after the last, and so it is before the bound
pub Rises-bound : (m : ℕ) (ns : List ℕ) → Rises m ns → m < 253370764800000
Rises-bound m [] rises = rises
Rises-bound m (n ∷ ns) rises = omega (arith, rises.0, Rises-bound n ns rises.1)
