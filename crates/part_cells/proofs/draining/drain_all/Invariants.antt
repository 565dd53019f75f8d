use Rattle.std.proofs.Common.{◌+◌, ◌*◌, ◌≤◌, length, vec_len, vec_capacity}
use Rattle.slab.specs.Slab.{get}
use Rattle.part_model.specs.Cells.{total_calls}
use Rattle.part_cells.specs.Slots.{slot_of, cells_in, AreSlotsKept, late_cell, late_calls, late_number}
use Rattle.part_cells.proofs.SlotPasses.{IsInPass}
use Rattle.part_cells.proofs.draining.drain_all.Given as goal

abbrev pub invariant-loop-slot : goal.invariant-loop-slot
invariant-loop-slot g l =
    IsInPass (late_cell (g.T.CellTest.holds l.late) l.now) (late_calls (g.T.CellTest.holds l.late)) (late_number (g.T.CellTest.holds l.late)) l.places.entries l.slot-iterator (cells_in (get l.fn.slots) l.places.entries) (get l.slots) l.fn.ended.items l.ended.items l.over
    × AreSlotsKept (get l.slots) l.places.entries (slot_of l.calls) l.count
    × (vec_len l.ended + total_calls (cells_in (get l.slots) l.slot-iterator) ≤ vec_capacity l.ended)
    × (vec_capacity l.fn.ended ≤ vec_capacity l.ended)
    × (l.over + 1024 * length l.slot-iterator ≤ 1024 * length l.places.entries)
