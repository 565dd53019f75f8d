use Rattle.standby_session.proofs.Kept.{keeps_answered}
use Rattle.standby_session.proofs.law.standby_law.Goals as goal

pub returns : goal.returns
returns c = keeps_answered c.frame_law.ensures.reads c.frame_law.ensures.no_prefix c.args.calls.now c.args.answered c.requires.short
