use Rattle.std.proofs.Common.{sym, ◌∙◌}
use Rattle.slab.specs.Slab.{get}
use Rattle.part_cells.proofs.SlotPasses.{length-placed}
use Rattle.part_cells.proofs.cells.Cells.len.Goals as goal

pub returns : goal.returns
returns c = let k = c.self.invariant in rw (← c.self.view_is) (c.len.ensures.len ∙ sym (length-placed (get c.self.inside.slots) c.self.inside.places.entries k.placed))
