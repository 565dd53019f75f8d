use Rattle.std.proofs.Common.{◌≡◌, ◌<◌, [], length, map, sym, ◌∙◌, Ok, Err, None, arith}
use Rattle.std.specs.List.{insert}
use Rattle.std.proofs.lemmas.List.Edits.{length-insert}
use Rattle.member_roster.specs.Places.{place_by}
use Rattle.member_roster.proofs.Places.{err_within}
use Rattle.member_roster.proofs.Ascending.{ascends_insert}
use Rattle.placement_core.specs.declared.sweep.KeptRoom.{KeptRoom}
use Rattle.placement_core.specs.Kept.{kept, kept_space}
use Rattle.placement_core.specs.Placement.{room_at}
use Rattle.placement_core.proofs.Spaces.{room_at-found, put_room-at}
use Rattle.placement_core.proofs.Searched.{length_mapped}
use Rattle.placement_core.specs.Sound.{IsKeptSound}
use Rattle.placement_core.proofs.Sound.{each_insert}
use Rattle.placement_core.proofs.rooms.Rooms.insert.Goals as goal

pub unreachable-requires : goal.unreachable-requires
unreachable-requires c =
    let p : place_by kept_space c.args.space c.self.inside.rooms.items ≡ Ok c.in-Ok.field-0 = rw c.deref.ensures.value at (sym c.room_place.ensures.place ∙ c.in-Ok.is) in
    let d : KeptRoom = record { space = []; room = c.args.room } in
    let found = room_at-found c.args.space c.self.inside.rooms.items c.in-Ok.field-0 d p in
    let free : room_at (map kept c.self.inside.rooms.items) c.args.space ≡ None = rw (← c.self.view_is) at c.requires.free in
    absurd (cc)

pub invariant_of-self-in-Err : goal.invariant_of-self-in-Err
invariant_of-self-in-Err c =
    let p : place_by kept_space c.args.space c.self.inside.rooms.items ≡ Err c.in-Err.at = rw c.deref.ensures.value at (sym c.room_place.ensures.place ∙ c.in-Err.is) in
    let ks = c.self.inside.rooms.items in
    let new : KeptRoom = record { space = c.args.space; room = c.args.room } in
    let items : c.insert.new.self.items ≡ insert ks c.in-Err.at new = c.in_ok-insert-in-Err.ensures.items in
    let few : length (map kept ks) < 64 = rw (← c.self.view_is) at c.requires.few in
    let count = length_mapped kept ks in
    let within = err_within kept_space c.args.space ks c.in-Err.at p in
    let long = length-insert ks c.in-Err.at new within in
    (rw items (ascends_insert kept_space new ks c.in-Err.at p c.self.invariant.0), rw items (omega arith), omega arith, rw items (omega arith), rw items (each_insert IsKeptSound ks c.in-Err.at new c.requires.sound c.self.invariant.4))

pub returns-clause-ok : goal.returns-clause-ok
returns-clause-ok c =
    let p : place_by kept_space c.args.space c.self.inside.rooms.items ≡ Err c.in-Err.at = rw c.deref.ensures.value at (sym c.room_place.ensures.place ∙ c.in-Err.is) in
    let items : c.insert.new.self.items ≡ insert c.self.inside.rooms.items c.in-Err.at (record { space = c.args.space; room = c.args.room }) = c.in_ok-insert-in-Err.ensures.items in
    rw (← c.self.view_is, items) (sym (put_room-at c.args.space c.args.room c.self.inside.rooms.items c.in-Err.at p))
