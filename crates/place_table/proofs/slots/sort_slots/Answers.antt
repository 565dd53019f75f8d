use Rattle.std.proofs.Common.{rules}
use Rattle.std.specs.Ordering.{is_lt}
use Rattle.std.proofs.lemmas.Fn.{always_returns_same}
use Rattle.place_table.specs.declared.table.Slot.{Slot}
use Rattle.place_table.specs.Tables.{slot_cmp}
use Rattle.place_table.proofs.SlotOrder.{slot_order}
use Rattle.place_table.proofs.slots.sort_slots.Goals as goal

pub returns-clause-sorted : goal.returns-clause-sorted
returns-clause-sorted c = c.sort_unstable_by.ensures.sorted (λ (a b : Slot). is_lt (slot_cmp a b)) slot_order (always_returns_same _ _ _ (λ a r q k. search rules))
