use Rattle.std.proofs.Common.{None}
use Rattle.part_cells.proofs.Calls.{updated}
use Rattle.part_cells.proofs.call_slots.CallSlots.remove.Goals as goal

pub returns : goal.returns
returns c = rw (← c.self.view_is) (updated c.args.call None c.self.inside.slots.entries c.remove-slot.new.self.entries c.remove-slot.ensures.updates.0)
