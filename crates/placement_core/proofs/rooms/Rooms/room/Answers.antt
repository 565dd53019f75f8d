use Rattle.std.proofs.Common.{◌≡◌, sym, ◌∙◌, ap, Ok, Err, Some}
use Rattle.member_roster.specs.Places.{place_by}
use Rattle.placement_core.specs.declared.sweep.KeptRoom.{KeptRoom}
use Rattle.placement_core.specs.Kept.{kept_space}
use Rattle.placement_core.proofs.Spaces.{room_at-found, room_at-missing}
use Rattle.placement_core.proofs.rooms.Rooms.room.Goals as goal

pub returns-in-Ok : goal.returns-in-Ok
returns-in-Ok c =
    let p : place_by kept_space c.args.space.now c.self.inside.rooms.items ≡ Ok c.in-Ok.at = rw c.deref.ensures.value at (sym c.room_place.ensures.place ∙ c.in-Ok.is) in
    rw (← c.self.view_is) (ap (λ (k : KeptRoom). Some k.room.state) c.index.ensures ∙ sym (room_at-found c.args.space.now c.self.inside.rooms.items c.in-Ok.at c.index.result.now p))

pub returns-in-Err : goal.returns-in-Err
returns-in-Err c =
    let p : place_by kept_space c.args.space.now c.self.inside.rooms.items ≡ Err c.in-Err.field-0 = rw c.deref.ensures.value at (sym c.room_place.ensures.place ∙ c.in-Err.is) in
    rw (← c.self.view_is) (sym (room_at-missing c.args.space.now c.self.inside.rooms.items c.in-Err.field-0 c.self.invariant.0 p))
