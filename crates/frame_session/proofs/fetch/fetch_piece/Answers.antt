use Rattle.frame_session.proofs.Fetching.{not_came, nothing_came, came}
use Rattle.frame_session.proofs.fetch.fetch_piece.Goals as goal

pub returns-in-Err-clause-fetches : goal.returns-in-Err-clause-fetches
returns-in-Err-clause-fetches g c =
    not_came c.args.reader.now (g.C.Source.read_traffic c.args.conn.now) (g.C.Source.read_traffic c.receive.new.conn) c.clear.new.self.items c.receive.new.into.items c.in-Err.error c.in-Err.ensures.reads

pub returns-then-count-eq0-clause-fetches : goal.returns-then-count-eq0-clause-fetches
returns-then-count-eq0-clause-fetches g c =
    nothing_came c.args.reader.now (g.C.Source.read_traffic c.args.conn.now) (g.C.Source.read_traffic c.receive.new.conn) c.clear.new.self.items c.receive.new.into.items c.in-Ok.count c.if-count-eq0.true c.in-Ok.ensures.reads

pub returns-in-Ok-feed-clause-fetches : goal.returns-in-Ok-feed-clause-fetches
returns-in-Ok-feed-clause-fetches g c =
    came c.args.reader.now c.feed.new.self (g.C.Source.read_traffic c.args.conn.now) (g.C.Source.read_traffic c.receive.new.conn) c.clear.new.self.items c.receive.new.into.items c.as_slice.result.now c.in-Ok.count c.clear.ensures.items c.as_slice.ensures.value c.in-Ok.ensures.reads
    (c.in-Ok-feed.ensures.fed c.requires)
