use Rattle.std.proofs.Common.{arith}
use Rattle.standby_command.proofs.Sessions.{served_more}
use Rattle.standby_command.proofs.serving.serve_many.Goals as goal

pub loop-preserved : goal.loop-preserved
loop-preserved g c = record {
  served = served_more c.loop.counter _ _ _ c.loop.invariant.served c.in_default.ensures.serves;
  disk = omega (arith, c.loop.invariant.disk, c.serve_next.ensures.never_fall.0);
  port = omega (arith, c.loop.invariant.port, c.serve_next.ensures.never_fall.1);
}
