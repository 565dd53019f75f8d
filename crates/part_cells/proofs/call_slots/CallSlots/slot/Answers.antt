use Rattle.std.proofs.Common.{None, Some, sym, ap, ◌∙◌}
use Rattle.part_cells.specs.Slots.{slot_of}
use Rattle.part_cells.proofs.Calls.{slot_of-lookup, as_copied}
use Rattle.part_cells.proofs.call_slots.CallSlots.slot.Goals as goal

pub returns-in-None : goal.returns-in-None
returns-in-None c = as_copied c.get.result None _ c.in-None.is (c.get.ensures.value ∙ sym (slot_of-lookup c.self.inside.slots.entries c.args.call)) ∙ ap (λ es. slot_of es c.args.call) c.self.view_is

pub returns-in-Some : goal.returns-in-Some
returns-in-Some c = as_copied c.get.result (Some c.in-Some.slot) _ c.in-Some.is (c.get.ensures.value ∙ sym (slot_of-lookup c.self.inside.slots.entries c.args.call)) ∙ ap (λ es. slot_of es c.args.call) c.self.view_is
