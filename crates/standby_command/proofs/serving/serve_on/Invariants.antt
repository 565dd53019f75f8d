use Rattle.std.proofs.Common.{◌≤◌}
use Rattle.standby_command.proofs.Sessions.{HasServedSome}
use Rattle.standby_command.proofs.serving.serve_on.Given as goal

abbrev pub invariant-loop : goal.invariant-loop
invariant-loop g l = record {
  served : HasServedSome (g.D.Disk.told l.initial.disk) (g.D.Disk.told l.disk);
  disk : g.D.Disk.disk_faults l.initial.disk ≤ g.D.Disk.disk_faults l.disk;
  port : g.L.Listen.listen_faults l.initial.port ≤ g.L.Listen.listen_faults l.port;
}
