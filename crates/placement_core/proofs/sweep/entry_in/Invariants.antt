use Rattle.std.proofs.Common.{◌≡◌, drop}
use Rattle.std.specs.List.{slice_get}
use Rattle.placement_core.specs.Kept.{kept_entries}
use Rattle.placement_core.proofs.sweep.entry_in.Given as goal

abbrev pub invariant-loop-kept_room : goal.invariant-loop-kept_room
invariant-loop-kept_room l = slice_get (kept_entries l.rooms) l.at ≡ slice_get (kept_entries (drop l.kept_room-index l.rooms)) l.left
