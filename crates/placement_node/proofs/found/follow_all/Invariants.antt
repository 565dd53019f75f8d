use Rattle.std.proofs.Common.{◌≡◌, ◌≤◌, drop, false, Some}
use Rattle.tx_journal.specs.Calls.{told}
use Rattle.tx_journal.specs.File.{Image}
use Rattle.tx_journal.specs.Pair.{Files, Holds}
use Rattle.placement_node.specs.Found.{rooms_found, first_offset}
use Rattle.placement_node.specs.Ranges.{RoomsFit}
use Rattle.placement_node.proofs.found.follow_all.Given as goal

abbrev pub invariant-loop-index : goal.invariant-loop-index
invariant-loop-index g l = record {
  works : l.journal.is_broken ≡ false;
  same : l.journal ≡ record l.fn.journal { live = record { told = l.fn.journal.live.told; faults = l.journal.live.faults }; is_broken = l.journal.is_broken };
  faults : l.fn.journal.live.faults ≤ l.journal.live.faults;
  fits : RoomsFit l.replay;
  found : (files : Files) → told l.fn.journal ≡ Some files → (held : Image) → Holds held files → rooms_found 0 first_offset l.fn.replay held.payloads ≡ rooms_found l.index l.offset l.replay (drop l.index held.payloads);
}
