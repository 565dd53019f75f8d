use Rattle.std.proofs.Common.{◌≡◌, ◌+◌, ◌≤◌, ◌++◌, vec_len, vec_capacity}
use Rattle.slab.specs.Slab.{get}
use Rattle.part_model.specs.Cells.{total_calls}
use Rattle.part_cells.specs.Slots.{cells_in, each_list, open_calls}
use Rattle.part_cells.proofs.stopping.list_all.Given as goal

abbrev pub invariant-loop-slot : goal.invariant-loop-slot
invariant-loop-slot l =
    (l.calls.items ++ each_list open_calls (cells_in (get l.slots) l.slot-iterator) ≡ l.fn.calls.items ++ each_list open_calls (cells_in (get l.slots) l.places.entries))
    × (vec_len l.calls + total_calls (cells_in (get l.slots) l.slot-iterator) ≤ vec_capacity l.calls)
