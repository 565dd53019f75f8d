use Rattle.std.proofs.Common.{arith}
use Rattle.standby_command.proofs.Sessions.{some_more}
use Rattle.standby_command.proofs.serving.serve_on.Goals as goal

pub loop-preserved : goal.loop-preserved
loop-preserved g c = record {
  served = some_more _ _ _ c.loop.invariant.served c.in_default.ensures.serves;
  disk = omega (arith, c.loop.invariant.disk, c.serve_next.ensures.never_fall.0);
  port = omega (arith, c.loop.invariant.port, c.serve_next.ensures.never_fall.1);
}
