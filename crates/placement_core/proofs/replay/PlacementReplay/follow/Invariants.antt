use Rattle.std.proofs.Common.{◌≡◌, drop, map}
use Rattle.placement_core.specs.Readings.{entry_of}
use Rattle.placement_core.specs.Restores.{after_entries}
use Rattle.placement_core.proofs.replay.PlacementReplay.follow.Given as goal

abbrev pub invariant-loop-i : goal.invariant-loop-i
invariant-loop-i l = after_entries l.fn.self (map entry_of l.entries) ≡ after_entries l.self (map entry_of (drop l.i l.entries))
