use Rattle.frame_session.proofs.Replying.{replied}
use Rattle.frame_session.proofs.turn.reply_with.Goals as goal

pub returns-clause-replies : goal.returns-clause-replies
returns-clause-replies g c = (c.answer-answer.result, c.answer-answer.ensures.is, replied _ _ _ c.write_answer-written.result c.write_answer-written.ensures.writes)
