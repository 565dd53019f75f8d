use Rattle.std.proofs.Common.{Ok, Err, arith}
use Rattle.exchanges.specs.Replies.{place_at}
use Rattle.sidecar_start.specs.Booting.{boot_frame, BootCarries}
use Rattle.sidecar_start.proofs.Tries.{begins, goes_on, ends_with}
use Rattle.sidecar_start.proofs.booting.draw_with.Goals as goal

pub loop-init : goal.loop-init
loop-init g c = record {
  going = begins (BootCarries (boot_frame c.args.words.now)) (place_at c.args.words.now.store_at) _ _;
  clock = omega arith;
}

pub returns-in-Err-clause-draws : goal.returns-in-Err-clause-draws
returns-in-Err-clause-draws g c =
    ends_with (BootCarries (boot_frame c.args.words.now)) (place_at c.args.words.now.store_at) _ _ _ _ _ _ (Err c.in-Err.end) c.loop.invariant.going c.in-Err.ensures

pub returns-in-Ok-Some-clause-draws : goal.returns-in-Ok-Some-clause-draws
returns-in-Ok-Some-clause-draws g c =
    ends_with (BootCarries (boot_frame c.args.words.now)) (place_at c.args.words.now.store_at) _ _ _ _ _ _ (Ok c.in-Ok-Some.boot) c.loop.invariant.going (rw c.in-Ok-Some.field-0-is at c.in-Ok-Some.ensures)

pub loop-preserved : goal.loop-preserved
loop-preserved g c = record {
  going = goes_on (BootCarries (boot_frame c.args.words.now)) (place_at c.args.words.now.store_at) _ _ _ _ _ _ c.loop.invariant.going (rw c.in-Ok-None.field-0-is at c.in-Ok-None.ensures);
  clock = omega (arith, c.pause.ensures.never_falls);
}
