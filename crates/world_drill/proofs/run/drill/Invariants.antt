use Rattle.std.proofs.Common.{◌-◌}
use Rattle.world_drill.proofs.Ways.{IsOnWay}
use Rattle.world_drill.proofs.run.drill.Given as goal

abbrev pub invariant-steps : goal.invariant-steps
invariant-steps l = IsOnWay l.world l.generator (l.fn.steps - l.counter) l.fn.seed l.fn.steps
