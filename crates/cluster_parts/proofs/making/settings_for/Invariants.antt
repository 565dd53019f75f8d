use Rattle.std.proofs.Common.{◌≡◌, ◌++◌, drop}
use Rattle.cluster_model.specs.World.{settings_for}
use Rattle.cluster_parts.proofs.making.settings_for.Given as goal

abbrev pub invariant-loop-kind : goal.invariant-loop-kind
invariant-loop-kind l = settings_for l.fn.settings l.kinds ≡ l.list.items ++ settings_for l.fn.settings (drop l.kind-index l.kinds)
