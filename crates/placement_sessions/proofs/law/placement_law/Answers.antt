use Rattle.placement_sessions.proofs.Framed.{frame_answered}
use Rattle.placement_sessions.proofs.Looked.{look_answered}
use Rattle.placement_sessions.proofs.law.placement_law.Goals as goal

pub returns-clause-frames : goal.returns-clause-frames
returns-clause-frames c = frame_answered

pub returns-clause-looks : goal.returns-clause-looks
returns-clause-looks c = look_answered
