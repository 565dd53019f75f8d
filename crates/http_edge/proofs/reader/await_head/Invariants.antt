use Rattle.std.proofs.Common.{◌≡◌, ◌≤◌, ◌-◌, ◌++◌, List, ℕ, [], vec_len}
use Rattle.http_edge.specs.Carry.{Over}
use Rattle.http_edge.specs.Fields.{most_head}
use Rattle.http_edge.proofs.reader.await_head.Given as goal

-- what came over the connection so far is kept
abbrev pub invariant-loop-kept : goal.invariant-loop-kept
invariant-loop-kept g l =
    record {
      read : (got : List ℕ) × (l.kept.items ≡ l.initial.kept.items ++ got) × Over (g.C.Source.read_traffic l.initial.conn) (g.C.Source.read_traffic l.conn) (record { read = got; written = [] });
      short : vec_len l.kept ≤ most_head;
      faults : g.C.Source.read_faults l.initial.conn ≤ g.C.Source.read_faults l.conn;
    }

abbrev pub decreases-loop-kept : goal.decreases-loop-kept
decreases-loop-kept g l = most_head - vec_len l.kept
