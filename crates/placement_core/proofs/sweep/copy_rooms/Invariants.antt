use Rattle.std.proofs.Common.{◌≡◌, take}
use Rattle.placement_core.proofs.sweep.copy_rooms.Given as goal

abbrev pub invariant-loop-kept_room : goal.invariant-loop-kept_room
invariant-loop-kept_room l = l.items.items ≡ take l.kept_room-index l.rooms
