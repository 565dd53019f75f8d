use Rattle.std.proofs.Common.{◌≤◌}
use Rattle.standby_command.proofs.Sessions.{HasServed}
use Rattle.standby_command.proofs.serving.serve_many.Given as goal

abbrev pub invariant-loop : goal.invariant-loop
invariant-loop g l = record {
  served : HasServed l.counter (g.D.Disk.told l.initial.disk) (g.D.Disk.told l.disk);
  disk : g.D.Disk.disk_faults l.initial.disk ≤ g.D.Disk.disk_faults l.disk;
  port : g.L.Listen.listen_faults l.initial.port ≤ g.L.Listen.listen_faults l.port;
}
