use Rattle.std.proofs.Common.{drop}
use Rattle.frame_wire.specs.declared.look.Found.TheVariants.{Whole}
use Rattle.frame_wire.specs.Streams.{LooksRight}
use Rattle.frame_wire.proofs.Taking.{taken_more}
use Rattle.frame_wire.proofs.reader.take_frames.Goals as goal

pub loop-used-preserved : goal.loop-used-preserved
loop-used-preserved c =
    let right : LooksRight (drop c.loop-used.used c.args.bytes.now) (Whole c.in-Whole.frame c.in-Whole.len) = rw c.in-Whole.is at c.in_ok-look_behind.ensures.right in
    rw c.in_ok-push_back-in-Whole.ensures.items (taken_more c.args.bytes.now c.loop-used.frames.items c.loop-used.used c.in-Whole.frame c.in-Whole.len c.loop-used.invariant right)
