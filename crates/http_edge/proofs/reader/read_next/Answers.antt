use Rattle.std.proofs.Common.{Ok, Some}
use Rattle.http_edge.specs.Steps.{AwaitsHead}
use Rattle.http_edge.proofs.Received.{then_next}
use Rattle.http_edge.proofs.reader.read_next.Goals as goal

pub returns-in-Ok-Some-clause-reads : goal.returns-in-Ok-Some-clause-reads
returns-in-Ok-Some-clause-reads g c =
    let t = g.C.Source.read_traffic in
    let came : AwaitsHead c.args.kept.now.items c.await_head.new.kept.items (t c.args.conn.now) (t c.await_head.new.conn) (Ok (Some c.in-Ok-Some.head)) = rw c.in-Ok-Some.field-0-is at c.in-Ok-Some.ensures.awaits in
    then_next c.args.kept.now.items c.await_head.new.kept.items c.take_body.new.kept.items (t c.args.conn.now) (t c.await_head.new.conn) (t c.take_body.new.conn) c.in-Ok-Some.head c.take_body.result came c.take_body.ensures.takes
