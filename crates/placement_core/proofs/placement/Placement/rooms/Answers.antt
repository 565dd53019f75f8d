use Rattle.std.proofs.Common.{◌≤◌, length, arith}
use Rattle.placement_core.proofs.Sound.{shown_sound}
use Rattle.placement_core.proofs.Spaces.{shown_rooms}
use Rattle.placement_core.proofs.placement.Placement.rooms.Goals as goal

pub returns-then-rooms-eq0-clause-sound : goal.returns-then-rooms-eq0-clause-sound
returns-then-rooms-eq0-clause-sound c =
    let rs = c.self.inside.rooms.rooms in
    let count = c.len-rooms.ensures.count in
    let within = c.len-rooms.ensures.within in
    let few : length rs ≤ 64 = omega arith in
    rw (← c.self.view_is) (shown_sound rs (shown_rooms rs c.len-rooms.ensures.order few) c.len-rooms.ensures.sound)

pub returns-else-rooms-eq0-clause-sound : goal.returns-else-rooms-eq0-clause-sound
returns-else-rooms-eq0-clause-sound c =
    let rs = c.self.inside.rooms.rooms in
    let count = c.len-rooms.ensures.count in
    let within = c.len-rooms.ensures.within in
    let few : length rs ≤ 64 = omega arith in
    rw (← c.self.view_is) (shown_sound rs (shown_rooms rs c.len-rooms.ensures.order few) c.len-rooms.ensures.sound)
