use Rattle.std.proofs.Common.{◌≡◌, drop, map}
use Rattle.placement_core.specs.Readings.{entries_of}
use Rattle.placement_core.specs.Restores.{rooms_after}
use Rattle.placement_core.proofs.replay.follow_all.Given as goal

abbrev pub invariant-loop-i : goal.invariant-loop-i
invariant-loop-i l = rooms_after 0 l.fn.replay (map entries_of l.records) ≡ rooms_after l.i l.replay (map entries_of (drop l.i l.records))
