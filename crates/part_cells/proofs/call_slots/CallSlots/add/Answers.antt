use Rattle.std.proofs.Common.{Some}
use Rattle.part_cells.proofs.Calls.{updated}
use Rattle.part_cells.proofs.call_slots.CallSlots.add.Goals as goal

pub returns-clause-ok : goal.returns-clause-ok
returns-clause-ok c =
    rw (← c.self.view_is) (updated c.args.call (Some c.args.slot) c.self.inside.slots.entries c.insert.new.self.entries c.in_ok-_before.ensures.updates.0)
