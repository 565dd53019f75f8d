use Rattle.http_edge.proofs.Extended.{extends_none}
use Rattle.http_edge.proofs.content.read_to_end.Goals as goal

pub returns-then-is_err-clause-reads : goal.returns-then-is_err-clause-reads
returns-then-is_err-clause-reads g c = (c.args.arrivals.now.rest, extends_none c.args.arrivals.now.rest _, tt)
