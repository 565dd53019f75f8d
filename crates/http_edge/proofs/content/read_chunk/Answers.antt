use Rattle.std.proofs.Common.{rules, ◌<◌}
use Rattle.http_edge.proofs.Chunked.{trailer_fails, last_part, chunk_fails, one_chunk}
use Rattle.http_edge.proofs.content.read_chunk.Goals as goal

pub returns-in-Err-await_part-clause-reads : goal.returns-in-Err-await_part-clause-reads
returns-in-Err-await_part-clause-reads g c =
    trailer_fails c.args.arrivals.now c.await_part.new.arrivals c.await_part-then-size-eq0.new.arrivals c.args.body.now.items c.in-Ok.size _ _ _ c.in-Err-await_part.error
    c.if-size-eq0.true c.in-Ok.ensures.awaits c.in-Err-await_part.ensures.awaits

pub returns-in-Ok-await_part-clause-reads : goal.returns-in-Ok-await_part-clause-reads
returns-in-Ok-await_part-clause-reads g c =
    last_part c.args.arrivals.now c.await_part.new.arrivals c.await_part-then-size-eq0.new.arrivals c.args.body.now.items c.in-Ok.size c.in-Ok-await_part.field-0 _ _ _
    c.if-size-eq0.true c.in-Ok.ensures.awaits c.in-Ok-await_part.ensures.awaits

pub returns-in-Err-read_data-clause-reads : goal.returns-in-Err-read_data-clause-reads
returns-in-Err-read_data-clause-reads g c =
    let some : 0 < c.in-Ok.size = search rules in
    chunk_fails (Unit {0}) c.args.arrivals.now c.await_part.new.arrivals c.read_data.new.arrivals c.args.body.now.items c.read_data.new.body.items c.in-Ok.size _ _ _ c.in-Err-read_data.error
    some c.in-Ok.ensures.awaits c.in-Err-read_data.ensures.reads

pub returns-in-Ok-read_data-clause-reads : goal.returns-in-Ok-read_data-clause-reads
returns-in-Ok-read_data-clause-reads g c =
    let some : 0 < c.in-Ok.size = search rules in
    one_chunk c.in-Ok-read_data.field-0 c.args.arrivals.now c.await_part.new.arrivals c.read_data.new.arrivals c.args.body.now.items c.read_data.new.body.items c.in-Ok.size _ _ _
    some c.in-Ok.ensures.awaits c.in-Ok-read_data.ensures.reads
