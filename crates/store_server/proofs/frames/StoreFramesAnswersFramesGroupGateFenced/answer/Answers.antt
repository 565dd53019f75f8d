use Rattle.std.proofs.Common.{subst}
use Rattle.fence_rows.specs.Together.{SharedFits}
use Rattle.store_server.proofs.Framed.{reply_is_fitting, answer_fits}
use Rattle.store_server.proofs.frames.StoreFramesAnswersFramesGroupGateFenced.answer.Goals as goal

pub unreachable-requires : goal.unreachable-requires
unreachable-requires g c = subst SharedFits c.in-CompactIs.is (reply_is_fitting c.args.reply c.requires)

pub fenced_answer-requires : goal.fenced_answer-requires
fenced_answer-requires g c = subst SharedFits c.in-Answer.is (reply_is_fitting c.args.reply c.requires)

pub returns-clause-fits : goal.returns-clause-fits
returns-clause-fits g c = answer_fits c.fenced_answer.result c.fenced_answer.ensures.fits
