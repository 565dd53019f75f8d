use Rattle.std.proofs.Common.{◌≡◌, take}
use Rattle.std.specs.Prelude.{map}
use Rattle.world_run.specs.Post.{version_in}
use Rattle.world_run.proofs.post.last_versions.Given as goal

abbrev pub invariant-loop-at : goal.invariant-loop-at
invariant-loop-at l = l.versions.items ≡ map version_in (take l.at l.placement.state.rooms)
