use Rattle.std.proofs.Common.{◌<◌, ◌^◌, length, arith}
use Rattle.slab.specs.Slab.{get}
use Rattle.part_cells.specs.Slots.{cells_in}
use Rattle.part_cells.proofs.SlotPasses.{length-placed}
use Rattle.part_cells.proofs.cells.Cells.count_where.Goals as goal

pub count_in-requires : goal.count_in-requires
count_in-requires g c =
    let k = c.self.invariant in
    let l = length-placed (get c.self.inside.slots) c.self.inside.places.entries k.placed in
    let f : length (cells_in (get c.self.inside.slots) c.self.inside.places.entries) < 2 ^ 62 = rw (← c.self.view_is) at c.requires in
    omega arith
