use Rattle.std.proofs.Common.{◌≡◌, length, length-set, sym, ◌∙◌, ap, Ok, Err, true, false, arith}
use Rattle.std.specs.List.{insert}
use Rattle.std.proofs.lemmas.List.Edits.{length-insert}
use Rattle.member_roster.specs.Places.{place_by}
use Rattle.member_roster.proofs.Places.{err_within}
use Rattle.member_roster.proofs.Ascending.{ascends_insert}
use Rattle.round_core.specs.Records.{record_of}
use Rattle.placement_core.specs.declared.readings.ReadRoom.{ReadRoom}
use Rattle.placement_core.specs.Readings.{read_space}
use Rattle.placement_core.proofs.Restored.{entry_follows, entry_full, entry_bad, entry_made}
use Rattle.placement_core.proofs.Searched.{ascends_set}
use Rattle.placement_core.proofs.replay.PlacementReplay.follow_entry.Goals as goal

pub invariant_of-self : goal.invariant_of-self
invariant_of-self c =
    let old = c.index_mut-read_room.result.now in
    let few = c.self.invariant.1 in
    let some = c.self.invariant.2 in
    (ascends_set read_space c.self.inside.rooms.items c.in-Ok.at old (record { space = old.space; room = c.follow.new.self }) (ap read_space c.index_mut-read_room.ensures.value) c.self.invariant.0, rw length-set few, rw length-set some)

pub returns-in-Ok : goal.returns-in-Ok
returns-in-Ok c =
    let p : place_by read_space c.args.entry.now.space c.self.inside.rooms.items ≡ Ok c.in-Ok.at = rw c.deref.ensures.value at (sym c.read_place.ensures.place ∙ c.in-Ok.is) in
    rw (← c.self.view_is) (entry_follows c.args.entry.now.space c.self.inside.rooms.items c.in-Ok.at c.index_mut-read_room.result.now c.follow.new.self (record_of c.args.entry.now.change) c.follow.result p c.index_mut-read_room.ensures.value c.follow.ensures)

pub returns-then-full : goal.returns-then-full
returns-then-full c =
    let p : place_by read_space c.args.entry.now.space c.self.inside.rooms.items ≡ Err c.in-Err.at = rw c.deref.ensures.value at (sym c.read_place.ensures.place ∙ c.in-Err.is) in
    let count : c.len-full.result ≡ length c.self.inside.rooms.items = c.len-full.ensures ∙ c.self.inside.rooms.ok.0 in
    let full = c.if-full.true in
    rw (← c.self.view_is) (entry_full c.args.entry.now.space c.self.inside.rooms.items c.in-Err.at (record_of c.args.entry.now.change) c.self.invariant.0 p (omega arith))

pub returns-then-not-branch : goal.returns-then-not-branch
returns-then-not-branch c =
    let p : place_by read_space c.args.entry.now.space c.self.inside.rooms.items ≡ Err c.in-Err.at = rw c.deref.ensures.value at (sym c.read_place.ensures.place ∙ c.in-Err.is) in
    let count : c.len-full.result ≡ length c.self.inside.rooms.items = c.len-full.ensures ∙ c.self.inside.rooms.ok.0 in
    let few = c.if-full.false in
    let bad : c.in_ok-follow-in-Err.field-0 ≡ false = c.if-not-branch.true in
    rw (← c.self.view_is) (entry_bad c.args.entry.now.space c.self.inside.rooms.items c.in-Err.at c.new-room.result c.follow-in-Err.new.self (record_of c.args.entry.now.change) c.in_ok-follow-in-Err.field-0 c.self.invariant.0 p (omega arith) c.new-room.ensures c.in_ok-follow-in-Err.ensures bad)

pub invariant_of-self-in-Err : goal.invariant_of-self-in-Err
invariant_of-self-in-Err c =
    let p : place_by read_space c.args.entry.now.space c.self.inside.rooms.items ≡ Err c.in-Err.at = rw c.deref.ensures.value at (sym c.read_place.ensures.place ∙ c.in-Err.is) in
    let ks = c.self.inside.rooms.items in
    let new : ReadRoom = record { space = c.args.entry.now.space; room = c.follow-in-Err.new.self } in
    let items : c.insert.new.self.items ≡ insert ks c.in-Err.at new = c.in_ok-insert-in-Err.ensures.items in
    let count : c.len-full.result ≡ length ks = c.len-full.ensures ∙ c.self.inside.rooms.ok.0 in
    let few = c.if-full.false in
    let long = length-insert ks c.in-Err.at new (err_within read_space c.args.entry.now.space ks c.in-Err.at p) in
    (rw items (ascends_insert read_space new ks c.in-Err.at p c.self.invariant.0), rw items (omega arith), rw items (omega arith))

pub returns-in_ok-insert-in-Err : goal.returns-in_ok-insert-in-Err
returns-in_ok-insert-in-Err c =
    let p : place_by read_space c.args.entry.now.space c.self.inside.rooms.items ≡ Err c.in-Err.at = rw c.deref.ensures.value at (sym c.read_place.ensures.place ∙ c.in-Err.is) in
    let ks = c.self.inside.rooms.items in
    let new : ReadRoom = record { space = c.args.entry.now.space; room = c.follow-in-Err.new.self } in
    let items : c.insert.new.self.items ≡ insert ks c.in-Err.at new = c.in_ok-insert-in-Err.ensures.items in
    let count : c.len-full.result ≡ length ks = c.len-full.ensures ∙ c.self.inside.rooms.ok.0 in
    let few = c.if-full.false in
    let good : c.in_ok-follow-in-Err.field-0 ≡ true = c.if-not-branch.false in
    rw (← c.self.view_is, items) (entry_made c.args.entry.now.space ks c.in-Err.at c.new-room.result c.follow-in-Err.new.self (record_of c.args.entry.now.change) c.in_ok-follow-in-Err.field-0 c.self.invariant.0 p (omega arith) c.new-room.ensures c.in_ok-follow-in-Err.ensures good)
