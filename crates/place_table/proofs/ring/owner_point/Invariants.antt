use Rattle.std.proofs.Common.{◌≡◌, ◌≤◌, drop, length}
use Rattle.std.specs.Prelude.{nat_le}
use Rattle.std.specs.List.{filter}
use Rattle.place_table.specs.Ring.{least}
use Rattle.place_table.proofs.ring.owner_point.Given as goal

abbrev pub invariant-loop-i : goal.invariant-loop-i
invariant-loop-i l = (l.i ≤ length l.points) × (l.from ≡ least (filter (λ p. nat_le l.place p.place) (drop l.i l.points))) × (l.all ≡ least (drop l.i l.points))

abbrev pub decreases-loop-i : goal.decreases-loop-i
decreases-loop-i l = l.i
