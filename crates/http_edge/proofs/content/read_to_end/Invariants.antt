use Rattle.std.proofs.Common.{◌≤◌, ◌+◌, ◌-◌, length}
use Rattle.http_edge.specs.Arrivals.{Extends}
use Rattle.http_edge.specs.Fields.{most_body}
use Rattle.http_edge.proofs.content.read_to_end.Given as goal

-- what came so far is in the body
abbrev pub invariant-loop-body : goal.invariant-loop-body
invariant-loop-body g l =
    record {
      came : Extends l.arrivals.rest (g.C.Source.read_traffic l.initial.conn) (g.C.Source.read_traffic l.conn) l.body.items;
      within : length l.body.items ≤ most_body + 1;
      faults : g.C.Source.read_faults l.initial.conn ≤ g.C.Source.read_faults l.conn;
    }

abbrev pub decreases-loop-body : goal.decreases-loop-body
decreases-loop-body g l = most_body + 1 - length l.body.items
