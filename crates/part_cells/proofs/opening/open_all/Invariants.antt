use Rattle.std.proofs.Common.{◌+◌, ◌*◌, ◌≤◌, length, vec_len, vec_capacity}
use Rattle.slab.specs.Slab.{get}
use Rattle.part_model.specs.Cells.{total_calls}
use Rattle.part_cells.specs.Slots.{slot_of, cells_in, AreSlotsKept, opened_cell, opened_calls, opened_moved}
use Rattle.part_cells.proofs.SlotPasses.{IsInPass}
use Rattle.part_cells.proofs.opening.open_all.Given as goal

abbrev pub invariant-loop-slot : goal.invariant-loop-slot
invariant-loop-slot g l =
    IsInPass (opened_cell (g.T.CellTest.holds l.own)) (opened_calls (g.T.CellTest.holds l.own)) (opened_moved (g.T.CellTest.holds l.own)) l.places.entries l.slot-iterator (cells_in (get l.fn.slots) l.places.entries) (get l.slots) l.fn.begun.items l.begun.items l.moved
    × AreSlotsKept (get l.slots) l.places.entries (slot_of l.calls) l.count
    × (vec_len l.begun + total_calls (cells_in (get l.slots) l.slot-iterator) ≤ vec_capacity l.begun)
    × (vec_capacity l.fn.begun ≤ vec_capacity l.begun)
    × (l.moved + 1024 * length l.slot-iterator ≤ 1024 * length l.places.entries)
