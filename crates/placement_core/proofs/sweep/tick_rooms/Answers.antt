use Rattle.std.proofs.Common.{◌<◌, length, get_or, ap, add-one, arith}
use Rattle.std.proofs.lemmas.List.{get_or_default}
use Rattle.std.proofs.lemmas.List.Edits.{map_over_more}
use Rattle.placement_core.specs.declared.sweep.KeptRoom.{KeptRoom}
use Rattle.member_roster.specs.Members.{late_of}
use Rattle.placement_core.specs.Kept.{kept_ticked}
use Rattle.placement_core.proofs.Spaces.{read_at, late_more}
use Rattle.placement_core.proofs.sweep.tick_rooms.Goals as goal

pub loop-kept_room-preserved : goal.loop-kept_room-preserved
loop-kept_room-preserved c =
    let ks = c.deref_mut-kept_room-items.result.now in
    let js = c.loop-kept_room.kept_room-items in
    let i = c.loop-kept_room.kept_room-index in
    let d = c.kept_room-item.result in
    let within : i < length ks = omega arith in
    let here : i < length js = omega arith in
    let was = read_at (kept_ticked c.args.now) ks js i d within c.loop-kept_room.invariant.items in
    let more = late_more c.args.now ks i d within in
    let count = c.tick_room-dropped.ensures.count in
    let same = ap (λ (k : KeptRoom). length (late_of k.room.state.members c.args.now)) was in
    let before = c.loop-kept_room.invariant.count in
    let few = c.loop-kept_room.invariant.few in
    let most = c.tick_room-dropped.ensures.within in
    record {
      items = rw c.tick_room-dropped.ensures.room (map_over_more (kept_ticked c.args.now) ks js i (get_or js i d) within c.loop-kept_room.invariant.items (get_or_default js i d (get_or js i d) here));
      count = rw add-one (omega arith);
      few = omega arith;
    }
