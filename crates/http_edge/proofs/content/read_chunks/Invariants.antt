use Rattle.std.proofs.Common.{◌≤◌, ◌+◌, ◌*◌, ◌-◌, length}
use Rattle.http_edge.specs.Content.{HasChunks}
use Rattle.http_edge.specs.Fields.{most_head, most_body}
use Rattle.http_edge.proofs.content.read_chunks.Given as goal

-- the chunks so far are in the body
abbrev pub invariant-chunks : goal.invariant-chunks
invariant-chunks g l =
    record {
      chunks : HasChunks l.initial.arrivals l.arrivals l.body.items (g.C.Source.read_traffic l.initial.conn) (g.C.Source.read_traffic l.conn);
      small : length l.body.items ≤ most_body;
      counted : length l.body.items ≤ l.arrivals.taken;
      taken : l.arrivals.taken ≤ most_head + 16387 * length l.body.items;
      faults : g.C.Source.read_faults l.initial.conn ≤ g.C.Source.read_faults l.conn;
    }

abbrev pub decreases-chunks : goal.decreases-chunks
decreases-chunks g l = most_body - length l.body.items
