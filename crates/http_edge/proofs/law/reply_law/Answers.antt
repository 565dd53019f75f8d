use Rattle.http_edge.proofs.OneReply.{cause_excludes, one_reply}
use Rattle.http_edge.proofs.OneCause.{one_error}
use Rattle.http_edge.proofs.law.reply_law.Goals as goal

pub returns-clause-excluded : goal.returns-clause-excluded
returns-clause-excluded c = cause_excludes

pub returns-clause-one_reply : goal.returns-clause-one_reply
returns-clause-one_reply c = one_reply

pub returns-clause-one_error : goal.returns-clause-one_error
returns-clause-one_error c = one_error
