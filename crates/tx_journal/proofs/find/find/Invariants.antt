use Rattle.std.proofs.Common.{◌≡◌, ◌≤◌, ℕ, List, Some}
use Rattle.disk_model.specs.Disk.{DiskState}
use Rattle.tx_journal.specs.Journal.{IsAtRest, IsGateOf}
use Rattle.tx_journal.specs.Window.{IsShown}
use Rattle.tx_journal.specs.declared.format.Format.{Format}
use Rattle.tx_journal.proofs.find.find.Given as goal

-- the gate of this step
abbrev pub invariant-loop-step : goal.invariant-loop-step
invariant-loop-step g l = record {
  within : l.gate ≤ l.len;
  same : g.D.Disk.told l.disk ≡ g.D.Disk.told l.fn.disk;
  shown : IsShown (g.D.Disk.told l.disk) l.window.at l.window.bytes.items;
  cost : g.D.Disk.disk_faults l.fn.disk ≤ g.D.Disk.disk_faults l.disk;
  gated : (d : DiskState) → g.D.Disk.told l.fn.disk ≡ Some d → (newest format : Format) (payloads : List (List ℕ)) (end : ℕ) → IsAtRest newest format payloads end d.bytes → IsGateOf payloads l.fn.from.index l.fn.from.gate → IsGateOf payloads l.step l.gate;
}
