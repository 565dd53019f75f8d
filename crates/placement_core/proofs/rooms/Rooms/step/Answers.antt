use Rattle.std.proofs.Common.{◌≡◌, get_or, map, set, length-set, sym, ◌∙◌, ap, Ok, Err, Some, arith}
use Rattle.member_roster.specs.Places.{place_by}
use Rattle.member_roster.proofs.Places.{ok_within}
use Rattle.placement_core.specs.declared.sweep.KeptRoom.{KeptRoom}
use Rattle.placement_core.specs.Kept.{KeptRooms, kept, kept_space}
use Rattle.placement_core.specs.Placement.{room_at, put_room}
use Rattle.placement_core.proofs.Spaces.{room_at-found, room_at-missing, put_room-found, put_room-same}
use Rattle.placement_core.proofs.Searched.{ascends_set}
use Rattle.placement_core.proofs.Recorded.{stepped_leaves}
use Rattle.placement_core.proofs.Steps.{steps_any}
use Rattle.placement_core.specs.Sound.{IsKeptSound}
use Rattle.placement_core.proofs.Sound.{each_set}
use Rattle.placement_core.proofs.rooms.Rooms.step.Goals.{in-Register-1, in-Beat-1}
use Rattle.placement_core.proofs.rooms.Rooms.step.Goals as goal

pub invariant_of-self : goal.invariant_of-self
invariant_of-self c =
    let p : place_by kept_space c.args.space.now c.self.inside.rooms.items ≡ Ok c.in-Ok.at = rw c.deref.ensures.value at (sym c.room_place.ensures.place ∙ c.in-Ok.is) in
    let old = c.index_mut-kept_room.result.now in
    let few = c.self.invariant.1 in
    let within = ok_within kept_space c.args.space.now c.self.inside.rooms.items c.in-Ok.at p in
    (ascends_set kept_space c.self.inside.rooms.items c.in-Ok.at old (record { space = old.space; room = c.step-reply.new.self }) (ap kept_space c.index_mut-kept_room.ensures.value) c.self.invariant.0, rw length-set few, omega arith, rw length-set (omega arith), each_set IsKeptSound c.self.inside.rooms.items c.in-Ok.at (record { space = old.space; room = c.step-reply.new.self }) c.step-reply.ensures.sound c.self.invariant.4)

pub returns-in-Ok : goal.returns-in-Ok
returns-in-Ok c =
    let p : place_by kept_space c.args.space.now c.self.inside.rooms.items ≡ Ok c.in-Ok.at = rw c.deref.ensures.value at (sym c.room_place.ensures.place ∙ c.in-Ok.is) in
    let old = c.index_mut-kept_room.result.now in
    let ks = c.self.inside.rooms.items in
    let at = c.in-Ok.at in
    let within = ok_within kept_space c.args.space.now ks at p in
    let was : old ≡ get_or ks at old = c.index_mut-kept_room.ensures.value in
    let found : room_at (map kept ks) c.args.space.now ≡ Some old.room.state = room_at-found c.args.space.now ks at old p ∙ ap (λ (k : KeptRoom). Some k.room.state) (sym was) in
    let same : put_room (map kept ks) c.args.space.now old.room.state ≡ map kept ks = ap (λ (k : KeptRoom). put_room (map kept ks) c.args.space.now k.room.state) was ∙ put_room-same c.args.space.now ks at old p in
    let put : map kept (set ks at (record { space = old.space; room = c.step-reply.new.self })) ≡ put_room (map kept ks) c.args.space.now c.step-reply.new.self.state = ap (λ (k : KeptRoom). map kept (set ks at (record { space = k.space; room = c.step-reply.new.self }))) was ∙ sym (put_room-found c.args.space.now ks at old c.step-reply.new.self p) in
    rw (← c.self.view_is) (record {
      steps = record { room = old.room.state; is = found; steps = steps_any c.args.event c.args.now c.step-reply.result old.room c.step-reply.new.self c.args.space.now (map kept ks) (map kept (set ks at (record { space = old.space; room = c.step-reply.new.self }))) same put c.step-reply.ensures.gives };
      recent = λ room e. stepped_leaves c.args.event c.args.now c.step-reply.result c.args.space.now ks at old c.step-reply.new.self room p within was c.step-reply.ensures.gives e;
    })

pub returns-in-Err-clause-steps : goal.returns-in-Err-clause-steps
returns-in-Err-clause-steps c =
    let p : place_by kept_space c.args.space.now c.self.inside.rooms.items ≡ Err c.in-Err.field-0 = rw c.deref.ensures.value at (sym c.room_place.ensures.place ∙ c.in-Err.is) in
    let none = room_at-missing c.args.space.now c.self.inside.rooms.items c.in-Err.field-0 c.self.invariant.0 p in
    elim c.match-event.branch [
      | in-Register-1 w ↦ rw (← c.self.view_is) (none, ap (λ (k : KeptRooms). k.rooms) w.self-is)
      | in-Beat-1 w ↦ rw (← c.self.view_is) (none, ap (λ (k : KeptRooms). k.rooms) w.self-is)
    ]

pub returns-in-Err-clause-recent : goal.returns-in-Err-clause-recent
returns-in-Err-clause-recent c = elim c.match-event.branch [
  | in-Register-1 w ↦ ap (λ (k : KeptRooms). k.recent) w.self-is
  | in-Beat-1 w ↦ ap (λ (k : KeptRooms). k.recent) w.self-is
]
