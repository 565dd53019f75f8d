use Rattle.std.proofs.Common.{◌≡◌, ℕ, List, length}
use Rattle.std.specs.Prelude.{map}
use Rattle.placement_core.specs.Placement.{SpaceRoom}
use Rattle.world_run.specs.Post.{version_in}
use Rattle.world_run.proofs.Posts.{versions_at}
use Rattle.world_run.proofs.post.start_versions.Given as goal

abbrev pub invariant-loop-at : goal.invariant-loop-at
invariant-loop-at l =
    (length l.versions.items ≡ length l.placement.state.rooms)
    × ((rooms : List SpaceRoom) → l.initial.versions.items ≡ map version_in rooms → l.versions.items ≡ versions_at rooms l.placement.state.rooms l.at)
