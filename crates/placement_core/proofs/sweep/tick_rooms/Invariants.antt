use Rattle.std.proofs.Common.{◌≡◌, ◌≤◌, ◌*◌, ◌++◌, length, map, take, drop}
use Rattle.placement_core.specs.Kept.{kept, kept_ticked}
use Rattle.placement_core.specs.Placement.{late_in}
use Rattle.placement_core.proofs.sweep.tick_rooms.Given as goal

abbrev pub invariant-loop-kept_room : goal.invariant-loop-kept_room
invariant-loop-kept_room l =
    record {
      items : l.kept_room-items ≡ map (kept_ticked l.fn.now) (take l.kept_room-index l.initial.kept_room-items) ++ drop l.kept_room-index l.initial.kept_room-items;
      count : l.dropped ≡ length (late_in (map kept (take l.kept_room-index l.initial.kept_room-items)) l.fn.now);
      few : l.dropped ≤ 256 * l.kept_room-index;
    }
