use Rattle.std.proofs.Common.{◌≡◌, ◌≤◌, ◌-◌}
use Rattle.standby_core.proofs.Attached.{SentTo}
use Rattle.standby_core.proofs.attach.copy_rest.Given as goal

abbrev pub invariant-loop-at : goal.invariant-loop-at
invariant-loop-at g l = record {
  sent : SentTo (g.D.Disk.told l.initial.disk) l.at (g.L.Source.read_traffic l.initial.replica.link) (g.L.Source.read_traffic l.replica.link);
  same : g.D.Disk.told l.disk ≡ g.D.Disk.told l.initial.disk;
  unheard : l.replica.unheard ≡ 0;
  disk : g.D.Disk.disk_faults l.initial.disk ≤ g.D.Disk.disk_faults l.disk;
  link : g.L.Source.read_faults l.initial.replica.link ≤ g.L.Source.read_faults l.replica.link;
}

abbrev pub decreases-loop-at : goal.decreases-loop-at
decreases-loop-at g l = l.len - l.at
