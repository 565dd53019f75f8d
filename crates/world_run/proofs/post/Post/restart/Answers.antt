use Rattle.std.proofs.Common.{ap, ◌∙◌}
use Rattle.placement_core.specs.Placement.{SpaceRoom, PlacementState, placement_restarted}
use Rattle.cluster_model.specs.World.{restarted_versions}
use Rattle.world_run.specs.Post.{PostView}
use Rattle.world_run.proofs.post.Post.restart.Goals as goal

pub returns-clause-versions : goal.returns-clause-versions
returns-clause-versions c =
    let old = c.self.inside.placement.state in
    c.from_vec.ensures ∙ c.start_versions.ensures old.rooms c.in_ok-versions.ensures ∙ ap (λ (s : PlacementState). restarted_versions old.rooms s.rooms) c.restarted.ensures.state
    ∙ ap (λ (v : PostView). restarted_versions v.placement.rooms (placement_restarted v.placement c.args.now).rooms) c.self.view_is
