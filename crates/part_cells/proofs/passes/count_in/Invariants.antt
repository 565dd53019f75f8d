use Rattle.std.proofs.Common.{◌≡◌, ◌+◌, ◌≤◌, length}
use Rattle.slab.specs.Slab.{get}
use Rattle.part_model.specs.Cells.{total}
use Rattle.part_cells.specs.Slots.{cells_in, one_where}
use Rattle.part_cells.proofs.passes.count_in.Given as goal

abbrev pub invariant-loop-slot : goal.invariant-loop-slot
invariant-loop-slot g l =
    (l.count + total (one_where (g.T.CellTest.holds l.test)) (cells_in (get l.slots) l.slot-iterator) ≡ total (one_where (g.T.CellTest.holds l.test)) (cells_in (get l.slots) l.places.entries))
    × (l.count + length l.slot-iterator ≤ length l.places.entries)
