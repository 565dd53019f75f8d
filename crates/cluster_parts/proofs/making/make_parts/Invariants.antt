use Rattle.std.proofs.Common.{◌≡◌}
use Rattle.cluster_model.specs.World.{settings_for, new_parts}
use Rattle.cluster_parts.specs.Views.{states_of}
use Rattle.cluster_parts.proofs.making.make_parts.Given as goal

abbrev pub invariant-loop-i : goal.invariant-loop-i
invariant-loop-i l = states_of l.parts.items ≡ new_parts l.fn.member (settings_for l.fn.settings l.fn.kinds) 0 l.i
