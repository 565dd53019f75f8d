use Rattle.http_edge.proofs.content.read_ended.Goals as goal

pub returns-in-Err-clause-reads : goal.returns-in-Err-clause-reads
returns-in-Err-clause-reads g c = (c.read_to_end.new.body.items, c.in-Err.ensures.reads, tt)

pub returns-clause-reads : goal.returns-clause-reads
returns-clause-reads g c = (c.read_to_end.new.body.items, c.in-Ok.ensures.reads, c.from_vec.ensures)
