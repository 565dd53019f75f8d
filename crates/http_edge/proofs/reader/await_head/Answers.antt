use Rattle.std.proofs.Common.{subst, Ok, None, length, rules}
use Rattle.http_edge.specs.Carry.{Reads}
use Rattle.http_edge.specs.Steps.{Looks, EndsAt}
use Rattle.http_edge.proofs.Received.{came_more, awaits_from, ended_gives}
use Rattle.http_edge.proofs.reader.await_head.Goals as goal

pub returns-then-count-eq0-clause-awaits : goal.returns-then-count-eq0-clause-awaits
returns-then-count-eq0-clause-awaits g c =
    let old = c.args.kept.now.items in
    let mid = c.loop-kept.kept.items in
    let last = c.receive.new.into.items in
    let seen : Looks c.as_slice.result.now (Ok None) = rw c.in-Ok-None.field-0-is at c.in-Ok-None.ensures in
    let none : Looks mid (Ok None) = subst (λ m. Looks m (Ok None)) c.as_slice.ensures.value seen in
    let more : Reads (g.C.Source.read_traffic c.loop-kept.conn) (g.C.Source.read_traffic c.receive.new.conn) mid last (Ok 0) = rw c.if-count-eq0.true at c.in-Ok.ensures.reads in
    let ends : EndsAt (length last) c.at_end.result = subst (λ n. EndsAt n c.at_end.result) (search rules) c.at_end.ensures in
    let read = c.loop-kept.invariant.read in
    awaits_from old last _ _ c.at_end.result (came_more old mid last _ _ _ 0 read more) (ended_gives old mid last _ _ _ c.at_end.result none (search rules) read more ends)
