use Rattle.frame_wire.specs.Streams.{AllFrames}
use Rattle.text_cases.proofs.frames.written_again.Given as goal

abbrev pub invariant-loop : goal.invariant-loop
invariant-loop l = AllFrames l.reader.ready
