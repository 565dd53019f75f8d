use Rattle.std.proofs.Common.{◌<◌, length, arith}
use Rattle.placement_core.proofs.Steps.{member_place}
use Rattle.placement_core.proofs.placement.Placement.is_pending.Goals as goal

pub is_pending-requires : goal.is_pending-requires
is_pending-requires c =
    let n = c.len.ensures.count in
    let l : 0 < length c.self.inside.rooms.rooms = omega arith in
    member_place c.self.inside.rooms.rooms c.args.at c.args.member c.room_at.result.now.state l c.room_at.ensures (rw (← c.self.view_is) at c.requires)
