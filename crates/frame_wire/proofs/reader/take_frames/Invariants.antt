use Rattle.std.proofs.Common.{length, ◌+◌, ◌-◌}
use Rattle.frame_wire.proofs.Taking.{TakenTo}
use Rattle.frame_wire.proofs.reader.take_frames.Given as goal

abbrev pub invariant-loop-used : goal.invariant-loop-used
invariant-loop-used l = TakenTo l.bytes l.frames.items l.used

abbrev pub decreases-loop-used : goal.decreases-loop-used
decreases-loop-used l = length l.bytes + 1 - l.used
