use Rattle.std.proofs.Common.{◌≡◌, drop}
use Rattle.stamp_lanes.specs.Restores.{number_fault}
use Rattle.stamp_lanes.proofs.restored.number_fault.Given as goal

abbrev pub invariant-loop-i : goal.invariant-loop-i
invariant-loop-i l = number_fault l.kept ≡ number_fault (drop l.i l.kept)
