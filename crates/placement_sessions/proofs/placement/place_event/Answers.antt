use Rattle.std.proofs.Common.{subst}
use Rattle.frame_wire.specs.Frames.{payload}
use Rattle.placement_sessions.proofs.Asking.{register_fits, beat_fits, ack_fits, leave_fits}
use Rattle.placement_sessions.proofs.placement.place_event.Goals as goal

pub returns-in-Register-clause-fits : goal.returns-in-Register-clause-fits
returns-in-Register-clause-fits c = register_fits c.in-Register.host (subst payload.Fits c.in-Register.is c.requires.0)

pub returns-in-Beat-clause-fits : goal.returns-in-Beat-clause-fits
returns-in-Beat-clause-fits c = beat_fits c.in-Beat.member (subst payload.Fits c.in-Beat.is c.requires.0)

pub returns-in-Ack-clause-fits : goal.returns-in-Ack-clause-fits
returns-in-Ack-clause-fits c = ack_fits c.in-Ack.member c.in-Ack.stage c.in-Ack.version (subst payload.Fits c.in-Ack.is c.requires.0)

pub returns-in-Leave-clause-fits : goal.returns-in-Leave-clause-fits
returns-in-Leave-clause-fits c = leave_fits c.in-Leave.member (subst payload.Fits c.in-Leave.is c.requires.0)
