use Rattle.std.proofs.Common.{◌≡◌, map}
use Rattle.std.specs.List.{AllByRecursion}
use Rattle.placement_core.specs.Readings.{kept_of}
use Rattle.placement_core.specs.Sound.{IsKeptSound}
use Rattle.placement_core.proofs.readings.restart_read.Given as goal

abbrev pub invariant-loop-read_room : goal.invariant-loop-read_room
invariant-loop-read_room l =
    record {
      rooms : l.items.items ≡ map (kept_of l.now) l.yielded;
      sound : AllByRecursion IsKeptSound l.items.items;
    }
