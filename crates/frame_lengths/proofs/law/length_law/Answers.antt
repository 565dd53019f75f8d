use Rattle.frame_lengths.proofs.Frames.{frame_short, frame_sent}
use Rattle.frame_lengths.proofs.law.length_law.Goals as goal

pub returns : goal.returns
returns c = record { short = frame_short; sent = frame_sent }
