use Rattle.std.proofs.Common.{◌≡◌, ◌≤◌, ◌-◌, ◌++◌, List, ℕ, [], vec_len}
use Rattle.http_edge.specs.Carry.{Over}
use Rattle.http_edge.proofs.reader.read_rest.Given as goal

-- what came over the connection so far is in the body
abbrev pub invariant-loop-body : goal.invariant-loop-body
invariant-loop-body g l =
    record {
      read : (got : List ℕ) × (l.body.items ≡ l.initial.body.items ++ got) × Over (g.C.Source.read_traffic l.initial.conn) (g.C.Source.read_traffic l.conn) (record { read = got; written = [] });
      within : vec_len l.body ≤ l.size;
      faults : g.C.Source.read_faults l.initial.conn ≤ g.C.Source.read_faults l.conn;
    }

abbrev pub decreases-loop-body : goal.decreases-loop-body
decreases-loop-body g l = l.size - vec_len l.body
