use Rattle.std.proofs.Common.{◌≡◌, List, length, map, ap, ◌∙◌, refl, arith}
use Rattle.placement_core.specs.declared.sweep.KeptRoom.{KeptRoom}
use Rattle.placement_core.specs.Kept.{kept_space, kept_restarted}
use Rattle.placement_core.proofs.Recorded.{all_taken, entries_restarted}
use Rattle.placement_core.proofs.Searched.{ascends_moved, length_mapped}
use Rattle.placement_core.proofs.Spaces.{map_restarted}
use Rattle.placement_core.proofs.Sound.{restarted_sound}
use Rattle.placement_core.proofs.rooms.Rooms.restart.Goals as goal

pub invariant_of-self : goal.invariant_of-self
invariant_of-self c =
    let few = c.self.invariant.1 in
    let ks = c.self.inside.rooms.items in
    let l = length_mapped (kept_restarted c.args.now) ks in
    let n : c.len-self-inside.result ≡ length (map (kept_restarted c.args.now) ks) = c.len-self-inside.ensures ∙ c.restart_rooms.new.rooms.ok.0 ∙ ap (λ (xs : List KeptRoom). length xs) c.restart_rooms.ensures in
    rw c.restart_rooms.ensures (ascends_moved kept_space kept_space (kept_restarted c.args.now) (λ k. refl) ks c.self.invariant.0, omega arith, omega arith, omega arith, restarted_sound c.args.now ks c.self.invariant.4)

pub returns-clause-rooms : goal.returns-clause-rooms
returns-clause-rooms c = rw (← c.self.view_is, c.restart_rooms.ensures) (map_restarted c.args.now c.self.inside.rooms.items)

pub returns-clause-recent : goal.returns-clause-recent
returns-clause-recent c =
    let ks = c.self.inside.rooms.items in
    let n : c.len-self-inside.result ≡ length (map (kept_restarted c.args.now) ks) = c.len-self-inside.ensures ∙ c.restart_rooms.new.rooms.ok.0 ∙ ap (λ (xs : List KeptRoom). length xs) c.restart_rooms.ensures in
    rw (← c.self.view_is, c.restart_rooms.ensures, n) (all_taken (map (kept_restarted c.args.now) ks) ∙ entries_restarted c.args.now ks)
