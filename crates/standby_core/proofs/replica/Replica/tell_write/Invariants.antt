use Rattle.std.proofs.Common.{◌≡◌, ◌≤◌, length}
use Rattle.standby_core.proofs.Mirrored.{Sent}
use Rattle.standby_core.proofs.replica.Replica.tell_write.Given as goal

abbrev pub invariant-loop-rest : goal.invariant-loop-rest
invariant-loop-rest g l = record {
  sent : Sent l.at l.bytes l.rest l.sent (g.L.Source.read_traffic l.initial.self.link) (g.L.Source.read_traffic l.self.link);
  unheard : l.self.unheard ≡ l.initial.self.unheard;
  faults : g.L.Source.read_faults l.initial.self.link ≤ g.L.Source.read_faults l.self.link;
}

abbrev pub decreases-loop-rest : goal.decreases-loop-rest
decreases-loop-rest g l = length l.rest
