use Rattle.std.proofs.Common.{refl, subst, Ok, Err}
use Rattle.http_edge.specs.Arrivals.{nothing_arrived, skipped, AwaitsReply}
use Rattle.http_edge.specs.Content.{ReadsBody}
use Rattle.http_edge.proofs.Replied.{head_failed, whole_reply, body_failed}
use Rattle.http_edge.proofs.exchanging.read_reply.Goals as goal

pub returns-in-Err-clause-reads : goal.returns-in-Err-clause-reads
returns-in-Err-clause-reads g c =
    let t = g.C.Source.read_traffic in
    let e = c.in-Err.error in
    let waits : AwaitsReply nothing_arrived c.await_reply.new.arrivals (t c.args.conn.now) (t c.await_reply.new.conn) (Err e) =
    subst (λ m. AwaitsReply m c.await_reply.new.arrivals (t c.args.conn.now) (t c.await_reply.new.conn) (Err e)) c.new-arrivals.ensures c.in-Err.ensures.awaits in
    head_failed c.await_reply.new.arrivals _ _ e waits

pub returns-in-Err-read_body-clause-reads : goal.returns-in-Err-read_body-clause-reads
returns-in-Err-read_body-clause-reads g c =
    let t = g.C.Source.read_traffic in
    let h = c.in-Ok.head in
    let mid = c.await_reply.new.arrivals in
    let e = c.in-Err-read_body.error in
    let r = c.in-Err-read_body.ensures.reads in
    let waits : AwaitsReply nothing_arrived mid (t c.args.conn.now) (t c.await_reply.new.conn) (Ok h) =
    subst (λ m. AwaitsReply m mid (t c.args.conn.now) (t c.await_reply.new.conn) (Ok h)) c.new-arrivals.ensures c.in-Ok.ensures.awaits in
    let read : ReadsBody {T = Unit {0}} h.form (skipped h.len mid) r.0 (t c.await_reply.new.conn) (t c.read_body.new.conn) (Err e) =
    subst (λ m. ReadsBody {T = Unit {0}} h.form m r.0 (t c.await_reply.new.conn) (t c.read_body.new.conn) (Err e)) c.skip.ensures r.1 in
    body_failed (Unit {0}) mid h r.0 _ _ _ e waits read

pub returns-in-Ok-read_body-clause-reads : goal.returns-in-Ok-read_body-clause-reads
returns-in-Ok-read_body-clause-reads g c =
    let t = g.C.Source.read_traffic in
    let h = c.in-Ok.head in
    let mid = c.await_reply.new.arrivals in
    let body = c.in-Ok-read_body.body in
    let r = c.in-Ok-read_body.ensures.reads in
    let waits : AwaitsReply nothing_arrived mid (t c.args.conn.now) (t c.await_reply.new.conn) (Ok h) =
    subst (λ m. AwaitsReply m mid (t c.args.conn.now) (t c.await_reply.new.conn) (Ok h)) c.new-arrivals.ensures c.in-Ok.ensures.awaits in
    let read : ReadsBody h.form (skipped h.len mid) r.0 (t c.await_reply.new.conn) (t c.read_body.new.conn) (Ok body) =
    subst (λ m. ReadsBody h.form m r.0 (t c.await_reply.new.conn) (t c.read_body.new.conn) (Ok body)) c.skip.ensures r.1 in
    whole_reply body mid h (record { status = h.status; fields = h.fields; body = body }) r.0 _ _ _ waits read refl refl r.2
