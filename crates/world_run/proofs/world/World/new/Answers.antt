use Rattle.std.proofs.Common.{sym, subst}
use Rattle.part_model.specs.Part.{ring_owner}
use Rattle.cluster_model.specs.World.{key_part}
use Rattle.cluster_model.specs.Invariant.{IsSafeWorld}
use Rattle.cluster_model.proofs.Worlds.{new_world_safe}
use Rattle.world_run.specs.Worlds.{WorldView, cluster_of}
use Rattle.world_run.proofs.world.World.new.Goals as goal

pub invariant_of-result : goal.invariant_of-result
invariant_of-result c = subst (λ (v : WorldView). IsSafeWorld ring_owner (cluster_of v)) (sym c.new.ensures) (new_world_safe ring_owner key_part c.args.settings)
