use Rattle.std.proofs.Common.{List, map, ap, ◌∙◌, refl}
use Rattle.placement_core.specs.declared.sweep.KeptRoom.{KeptRoom}
use Rattle.placement_core.specs.Entries.{placement_restart_record}
use Rattle.placement_core.specs.Kept.{kept, kept_entries, kept_space}
use Rattle.placement_core.specs.Placement.{SpaceRoom, PlacementState, placement_restarted}
use Rattle.placement_core.specs.Readings.{kept_of, read_space}
use Rattle.placement_core.proofs.Restored.{read_restarted, entries_read}
use Rattle.placement_core.proofs.Searched.{ascends_moved}
use Rattle.placement_core.proofs.replay.PlacementReplay.restarted.Goals as goal

pub from_restarted-placement-requires-clause-order : goal.from_restarted-placement-requires-clause-order
from_restarted-placement-requires-clause-order c = rw c.in_ok-rooms.ensures.rooms (ascends_moved read_space kept_space (kept_of c.args.now) (λ k. refl) c.self.inside.rooms.items c.self.invariant.0)

pub returns-clause-state : goal.returns-clause-state
returns-clause-state c =
    let of : List SpaceRoom → PlacementState = λ rs. record { rooms = rs } in
    c.from_restarted-placement.ensures.state
    ∙ ap (λ (ks : List KeptRoom). of (map kept ks)) c.in_ok-rooms.ensures.rooms
    ∙ ap of (read_restarted c.args.now c.self.inside.rooms.items)
    ∙ ap (λ (rs : List SpaceRoom). placement_restarted (of rs) c.args.now) c.self.view_is

pub returns-clause-recent : goal.returns-clause-recent
returns-clause-recent c =
    let of : List SpaceRoom → PlacementState = λ rs. record { rooms = rs } in
    c.from_restarted-placement.ensures.recent
    ∙ ap kept_entries c.in_ok-rooms.ensures.rooms
    ∙ entries_read c.args.now c.self.inside.rooms.items
    ∙ ap (λ (rs : List SpaceRoom). placement_restart_record (of rs) c.args.now) c.self.view_is
