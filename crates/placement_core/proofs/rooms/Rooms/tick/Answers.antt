use Rattle.std.proofs.Common.{◌≡◌, List, length, map, ap, ◌∙◌, refl, arith}
use Rattle.placement_core.specs.declared.sweep.KeptRoom.{KeptRoom}
use Rattle.placement_core.specs.Kept.{kept_space, kept_ticked}
use Rattle.placement_core.proofs.Recorded.{all_taken, entries_ticked}
use Rattle.placement_core.proofs.Searched.{ascends_moved, length_mapped}
use Rattle.placement_core.proofs.Spaces.{map_ticked}
use Rattle.placement_core.proofs.Sound.{ticked_sound}
use Rattle.placement_core.proofs.rooms.Rooms.tick.Goals as goal

pub invariant_of-self : goal.invariant_of-self
invariant_of-self c =
    let few = c.self.invariant.1 in
    let ks = c.self.inside.rooms.items in
    let l = length_mapped (kept_ticked c.args.now) ks in
    let n : c.len-self-inside.result ≡ length (map (kept_ticked c.args.now) ks) = c.len-self-inside.ensures ∙ c.tick_rooms-dropped.new.rooms.ok.0 ∙ ap (λ (xs : List KeptRoom). length xs) c.tick_rooms-dropped.ensures.rooms in
    rw c.tick_rooms-dropped.ensures.rooms (ascends_moved kept_space kept_space (kept_ticked c.args.now) (λ k. refl) ks c.self.invariant.0, omega arith, omega arith, omega arith, ticked_sound c.args.now ks c.self.invariant.4)

pub returns-clause-rooms : goal.returns-clause-rooms
returns-clause-rooms c = rw (← c.self.view_is, c.tick_rooms-dropped.ensures.rooms) (map_ticked c.args.now c.self.inside.rooms.items)

pub returns-clause-recent : goal.returns-clause-recent
returns-clause-recent c =
    let ks = c.self.inside.rooms.items in
    let n : c.len-self-inside.result ≡ length (map (kept_ticked c.args.now) ks) = c.len-self-inside.ensures ∙ c.tick_rooms-dropped.new.rooms.ok.0 ∙ ap (λ (xs : List KeptRoom). length xs) c.tick_rooms-dropped.ensures.rooms in
    rw (← c.self.view_is, c.tick_rooms-dropped.ensures.rooms, n) (all_taken (map (kept_ticked c.args.now) ks) ∙ entries_ticked c.args.now ks)
