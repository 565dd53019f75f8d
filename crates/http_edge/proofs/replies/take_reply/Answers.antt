use Rattle.std.proofs.Common.{sym, arith}
use Rattle.http_edge.proofs.Formed.{refused_there}
use Rattle.http_edge.proofs.replies.take_reply.Goals as goal

pub returns-in-Err : goal.returns-in-Err
returns-in-Err c = refused_there c.args.bytes.now c.args.spans.now c.args.head c.in-Err.error c.requires.is c.requires.within c.requires.few c.requires.short (omega arith) (sym c.in-Err.ensures.is)
