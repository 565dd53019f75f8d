use Rattle.std.proofs.Common.{Err}
use Rattle.http_edge.proofs.Exchanged.{cut_exchange, whole_exchange, decided}
use Rattle.http_edge.proofs.exchanging.exchange_text.Goals as goal

pub returns-in-Err-clause-exchanges : goal.returns-in-Err-clause-exchanges
returns-in-Err-clause-exchanges g c = cut_exchange (Unit {0}) c.args.text.now _ _ c.in-Err.error c.in-Err.ensures.writes

pub returns-clause-exchanges : goal.returns-clause-exchanges
returns-clause-exchanges g c = whole_exchange c.args.text.now _ _ _ c.read_reply.result c.in_default.ensures.writes c.read_reply.ensures.reads

pub returns-in-Err-clause-decides : goal.returns-in-Err-clause-decides
returns-in-Err-clause-decides g c = decided c.args.text.now _ _ (Err c.in-Err.error) (cut_exchange (Unit {0}) c.args.text.now _ _ c.in-Err.error c.in-Err.ensures.writes)

pub returns-clause-decides : goal.returns-clause-decides
returns-clause-decides g c =
    decided c.args.text.now _ _ c.read_reply.result (whole_exchange c.args.text.now _ _ _ c.read_reply.result c.in_default.ensures.writes c.read_reply.ensures.reads)
