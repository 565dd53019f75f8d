use Rattle.std.proofs.Common.{◌≡◌, drop}
use Rattle.placement_core.specs.Placement.{late_in}
use Rattle.cluster_model.specs.World.{running_among}
use Rattle.world_run.proofs.deliveries.first_running.Given as goal

abbrev pub invariant-loop-room : goal.invariant-loop-room
invariant-loop-room l =
    (l.parts ≡ l.initial.parts)
    × (running_among l.initial.parts.parts (late_in (drop l.room l.post.placement.rooms) l.now) ≡ running_among l.initial.parts.parts (late_in l.post.placement.rooms l.now))
