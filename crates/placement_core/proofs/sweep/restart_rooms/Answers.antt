use Rattle.std.proofs.Common.{◌<◌, length, get_or, arith}
use Rattle.std.proofs.lemmas.List.{get_or_default}
use Rattle.std.proofs.lemmas.List.Edits.{map_over_more}
use Rattle.placement_core.specs.Kept.{kept_restarted}
use Rattle.placement_core.proofs.sweep.restart_rooms.Goals as goal

pub loop-kept_room-preserved : goal.loop-kept_room-preserved
loop-kept_room-preserved c =
    let x = get_or c.loop-kept_room.kept_room-items c.loop-kept_room.kept_room-index c.kept_room-item.result in
    let within : c.loop-kept_room.kept_room-index < length c.loop-kept_room.kept_room-items = omega arith in
    rw (c.restarted.ensures.state, c.restarted.ensures.recent) (map_over_more (kept_restarted c.args.now) c.deref_mut-kept_room-items.result.now c.loop-kept_room.kept_room-items c.loop-kept_room.kept_room-index x (omega arith) c.loop-kept_room.invariant (get_or_default c.loop-kept_room.kept_room-items c.loop-kept_room.kept_room-index c.kept_room-item.result x within))
