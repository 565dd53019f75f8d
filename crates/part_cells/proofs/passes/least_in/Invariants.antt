use Rattle.std.proofs.Common.{◌≡◌, ◌≤◌, ◌-◌, ◌^◌, min}
use Rattle.slab.specs.Slab.{get}
use Rattle.part_cells.specs.Slots.{cells_in, least_of}
use Rattle.part_cells.proofs.passes.least_in.Given as goal

abbrev pub invariant-loop-slot : goal.invariant-loop-slot
invariant-loop-slot g l =
    (min l.least (least_of (g.N.CellNumber.number l.number) (cells_in (get l.slots) l.slot-iterator)) ≡ least_of (g.N.CellNumber.number l.number) (cells_in (get l.slots) l.places.entries))
    × (l.least ≤ 2 ^ 64 - 1)
