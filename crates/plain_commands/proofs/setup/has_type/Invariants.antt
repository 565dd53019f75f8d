use Rattle.std.proofs.Common.{◌≡◌, map, drop}
use Rattle.solo_run.specs.World.{has_depth}
use Rattle.plain_commands.specs.SetupTold.{type_depth}
use Rattle.plain_commands.proofs.setup.has_type.Given as goal

abbrev pub invariant-loop-other : goal.invariant-loop-other
invariant-loop-other l = has_depth l.kind (map type_depth l.kinds) ≡ has_depth l.kind (map type_depth (drop l.other-index l.kinds))
