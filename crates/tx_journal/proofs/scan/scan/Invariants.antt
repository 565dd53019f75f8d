use Rattle.std.proofs.Common.{◌≡◌, ◌≤◌, ◌-◌, take, true, Some}
use Rattle.disk_model.specs.Disk.{DiskState}
use Rattle.tx_journal.specs.Window.{IsShown}
use Rattle.tx_journal.specs.declared.format.Format.{Format}
use Rattle.tx_journal.specs.File.{name, is_known, head}
use Rattle.tx_journal.proofs.Walks.{Walked}
use Rattle.tx_journal.proofs.scan.scan.Given as goal

abbrev pub invariant-loop-window : goal.invariant-loop-window
invariant-loop-window g l = record {
  some : 8 ≤ l.gate;
  within : l.gate ≤ l.len;
  same : g.D.Disk.told l.disk ≡ g.D.Disk.told l.fn.disk;
  shown : IsShown (g.D.Disk.told l.disk) l.window.at l.window.bytes.items;
  cost : g.D.Disk.disk_faults l.fn.disk ≤ g.D.Disk.disk_faults l.disk;
  walked : (d : DiskState) → g.D.Disk.told l.fn.disk ≡ Some d → (newest format : Format) → is_known newest (name format) ≡ true → take 8 d.bytes ≡ head format → Walked newest format l.gate d.bytes;
}

abbrev pub decreases-loop-window : goal.decreases-loop-window
decreases-loop-window g l = l.len - l.gate
