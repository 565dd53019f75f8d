use Rattle.std.proofs.Common.{◌≡◌, ◌≤◌, Some, false}
use Rattle.std.specs.Prelude.{is_some}
use Rattle.store_payloads.specs.Fits.{TablesFit}
use Rattle.tx_journal.specs.Calls.{told}
use Rattle.tx_journal.specs.File.{Image}
use Rattle.tx_journal.specs.Pair.{Files, Holds, without_generation}
use Rattle.store_core.proofs.Openings.{IsRead}
use Rattle.store_core.proofs.opening.fold_all.Given as goal

abbrev pub invariant-loop-index : goal.invariant-loop-index
invariant-loop-index g l = record {
  works : l.journal.is_broken ≡ false;
  same : l.journal ≡ record l.fn.journal { live = record { told = l.fn.journal.live.told; faults = l.journal.live.faults } };
  fits : TablesFit l.fold.tables;
  faults : l.fn.journal.live.faults ≤ l.journal.live.faults;
  read : (files : Files) → told l.fn.journal ≡ Some files → (held : Image) → Holds held files → IsRead l.is_first (is_some l.fn.journal.generation) (without_generation held.payloads) l.index l.at l.fold;
}
