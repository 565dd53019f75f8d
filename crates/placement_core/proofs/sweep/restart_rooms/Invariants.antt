use Rattle.std.proofs.Common.{◌≡◌, ◌++◌, map, take, drop}
use Rattle.placement_core.specs.Kept.{kept_restarted}
use Rattle.placement_core.proofs.sweep.restart_rooms.Given as goal

abbrev pub invariant-loop-kept_room : goal.invariant-loop-kept_room
invariant-loop-kept_room l = l.kept_room-items ≡ map (kept_restarted l.fn.now) (take l.kept_room-index l.initial.kept_room-items) ++ drop l.kept_room-index l.initial.kept_room-items
