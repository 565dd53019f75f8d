use Rattle.std.proofs.Common.{◌≡◌, drop}
use Rattle.part_model.specs.Part.{ring_owner}
use Rattle.cluster_model.specs.World.{ClusterState, key_part, cluster_run}
use Rattle.world_run.specs.Worlds.{view_of}
use Rattle.lease_core.specs.Book.{stops_for}
use Rattle.lease_core.proofs.passing.stop_ended.Given as goal

-- for each cluster of the first view there is one of the present view, at which the members that are left lead to the same
abbrev pub invariant-loop-member : goal.invariant-loop-member
invariant-loop-member l =
    (w : ClusterState) → view_of w ≡ l.initial.world → (u : ClusterState) × (view_of u ≡ l.world)
    × (cluster_run ring_owner key_part w (stops_for l.parts l.members) ≡ cluster_run ring_owner key_part u (stops_for l.parts (drop l.member-index l.members)))
