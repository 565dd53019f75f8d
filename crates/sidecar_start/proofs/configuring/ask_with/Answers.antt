use Rattle.std.proofs.Common.{Ok, Err, arith}
use Rattle.exchanges.specs.Replies.{place_at}
use Rattle.sidecar_start.specs.Configuring.{ConfigCarries}
use Rattle.sidecar_start.proofs.Tries.{begins, goes_on, ends_with}
use Rattle.sidecar_start.proofs.configuring.ask_with.Goals as goal

pub loop-init : goal.loop-init
loop-init g c = record {
  going = begins (ConfigCarries c.args.app.now) (place_at c.args.app.now) _ _;
  clock = omega arith;
}

pub returns-in-Err-clause-asks : goal.returns-in-Err-clause-asks
returns-in-Err-clause-asks g c =
    ends_with (ConfigCarries c.args.app.now) (place_at c.args.app.now) _ _ _ _ _ _ (Err c.in-Err.end) c.loop.invariant.going c.in-Err.ensures.tries

pub returns-in-Ok-Some-clause-asks : goal.returns-in-Ok-Some-clause-asks
returns-in-Ok-Some-clause-asks g c =
    ends_with (ConfigCarries c.args.app.now) (place_at c.args.app.now) _ _ _ _ _ _ (Ok c.in-Ok-Some.config) c.loop.invariant.going (rw c.in-Ok-Some.field-0-is at c.in-Ok-Some.ensures.tries)

pub returns-in-Ok-Some-clause-shallow : goal.returns-in-Ok-Some-clause-shallow
returns-in-Ok-Some-clause-shallow g c = rw c.in-Ok-Some.field-0-is at c.in-Ok-Some.ensures.shallow

pub loop-preserved : goal.loop-preserved
loop-preserved g c = record {
  going = goes_on (ConfigCarries c.args.app.now) (place_at c.args.app.now) _ _ _ _ _ _ c.loop.invariant.going (rw c.in-Ok-None.field-0-is at c.in-Ok-None.ensures.tries);
  clock = omega (arith, c.pause.ensures.never_falls);
}
