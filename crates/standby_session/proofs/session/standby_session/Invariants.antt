use Rattle.std.proofs.Common.{◌≤◌}
use Rattle.standby_session.proofs.Serving.{Serving}
use Rattle.standby_session.proofs.session.standby_session.Given as goal

-- each call so far was made and answered; the bytes behind the last one are those that the reader keeps
abbrev pub invariant-loop : goal.invariant-loop
invariant-loop g l = record {
  serving : Serving (g.D.Disk.told l.initial.disk) (g.D.Disk.told l.disk) (g.C.Source.read_traffic l.initial.conn) (g.C.Source.read_traffic l.conn) l.reader l.faulty l.requests;
  link : g.C.Source.read_faults l.initial.conn ≤ g.C.Source.read_faults l.conn;
  disk : g.D.Disk.disk_faults l.initial.disk ≤ g.D.Disk.disk_faults l.disk;
}
