use Rattle.std.proofs.Common.{subst, sym}
use Rattle.http_edge.specs.declared.form.BodyForm.{BodyForm}
use Rattle.http_edge.specs.Content.{ReadsBody}
use Rattle.http_edge.proofs.content.read_body.Goals as goal

pub returns-in-BySize-clause-reads : goal.returns-in-BySize-clause-reads
returns-in-BySize-clause-reads g c =
    let t = g.C.Source.read_traffic in
    let r = c.read_sized.ensures.reads in
    (r.0, subst (λ (f : BodyForm). ReadsBody f c.args.arrivals r.0 (t c.args.conn.now) (t c.read_sized.new.conn) c.read_sized.result) (sym c.in-BySize.is) r.1, r.2)

pub returns-in-ByChunks-clause-reads : goal.returns-in-ByChunks-clause-reads
returns-in-ByChunks-clause-reads g c =
    let t = g.C.Source.read_traffic in
    let r = c.read_chunked.ensures.reads in
    (r.0, subst (λ (f : BodyForm). ReadsBody f c.args.arrivals r.0 (t c.args.conn.now) (t c.read_chunked.new.conn) c.read_chunked.result) (sym c.in-ByChunks.is) r.1, r.2)

pub returns-in-ToEnd-clause-reads : goal.returns-in-ToEnd-clause-reads
returns-in-ToEnd-clause-reads g c =
    let t = g.C.Source.read_traffic in
    let r = c.read_ended.ensures.reads in
    (r.0, subst (λ (f : BodyForm). ReadsBody f c.args.arrivals r.0 (t c.args.conn.now) (t c.read_ended.new.conn) c.read_ended.result) (sym c.in-ToEnd.is) r.1, r.2)
