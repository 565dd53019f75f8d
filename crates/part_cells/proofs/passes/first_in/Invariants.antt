use Rattle.std.proofs.Common.{◌≡◌}
use Rattle.slab.specs.Slab.{get}
use Rattle.part_cells.specs.Slots.{cells_in, first_where}
use Rattle.part_cells.proofs.passes.first_in.Given as goal

abbrev pub invariant-loop-slot : goal.invariant-loop-slot
invariant-loop-slot g l = first_where (g.T.CellTest.holds l.test) (cells_in (get l.slots) l.places.entries) ≡ first_where (g.T.CellTest.holds l.test) (cells_in (get l.slots) l.slot-iterator)
