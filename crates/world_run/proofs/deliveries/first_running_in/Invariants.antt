use Rattle.std.proofs.Common.{◌≡◌, drop}
use Rattle.std.specs.Prelude.{Some, slice_get}
use Rattle.placement_core.specs.Placement.{SpaceRoom}
use Rattle.member_roster.specs.Members.{late_of}
use Rattle.cluster_model.specs.World.{running_among}
use Rattle.world_run.proofs.deliveries.first_running_in.Given as goal

abbrev pub invariant-loop-at : goal.invariant-loop-at
invariant-loop-at l =
    (l.parts ≡ l.initial.parts)
    × ((r : SpaceRoom) → slice_get l.post.placement.rooms l.room ≡ Some r →
    running_among l.initial.parts.parts (late_of (drop l.at r.room.members) l.now) ≡ running_among l.initial.parts.parts (late_of r.room.members l.now))
