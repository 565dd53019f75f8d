use Rattle.std.proofs.Common.{◌≤◌, ◌-◌, length}
use Rattle.standby_core.proofs.Told.{Fills}
use Rattle.standby_core.proofs.hear.fill.Given as goal

abbrev pub invariant-loop-bytes : goal.invariant-loop-bytes
invariant-loop-bytes g l = record {
  came : Fills l.initial.bytes.items l.bytes.items (g.L.Source.read_traffic l.initial.link) (g.L.Source.read_traffic l.link);
  within : length l.bytes.items ≤ l.total;
  faults : g.L.Source.read_faults l.initial.link ≤ g.L.Source.read_faults l.link;
}

abbrev pub decreases-loop-bytes : goal.decreases-loop-bytes
decreases-loop-bytes g l = l.total - length l.bytes.items
