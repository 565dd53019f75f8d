use Rattle.std.proofs.Common.{◌≤◌, ◌-◌, length}
use Rattle.exchanges.proofs.Readings.{Fills}
use Rattle.exchanges.proofs.reading.fill.Given as goal

abbrev pub invariant-loop-bytes : goal.invariant-loop-bytes
invariant-loop-bytes g l = record {
  came : Fills l.initial.bytes.items l.bytes.items (g.C.Source.read_traffic l.initial.conn) (g.C.Source.read_traffic l.conn);
  within : length l.bytes.items ≤ l.total;
  faults : g.C.Source.read_faults l.initial.conn ≤ g.C.Source.read_faults l.conn;
}

abbrev pub decreases-loop-bytes : goal.decreases-loop-bytes
decreases-loop-bytes g l = l.total - length l.bytes.items
