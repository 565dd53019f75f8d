use Rattle.std.proofs.Common.{◌≡◌, ◌≤◌, ◌-◌, length}
use Rattle.http_edge.specs.Arrivals.{Extends}
use Rattle.http_edge.specs.Fields.{most_head}
use Rattle.http_edge.proofs.parts.await_part.Given as goal

-- what came over the connection so far isn't taken yet
abbrev pub invariant-looks : goal.invariant-looks
invariant-looks g l =
    record {
      came : Extends l.initial.arrivals.rest (g.C.Source.read_traffic l.initial.conn) (g.C.Source.read_traffic l.conn) l.arrivals.rest;
      taken : l.arrivals.taken ≡ l.initial.arrivals.taken;
      faults : g.C.Source.read_faults l.initial.conn ≤ g.C.Source.read_faults l.conn;
    }

abbrev pub decreases-looks : goal.decreases-looks
decreases-looks g l = most_head - length l.arrivals.rest
