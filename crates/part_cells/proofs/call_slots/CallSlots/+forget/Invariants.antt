use Rattle.std.proofs.Common.{length}
use Rattle.part_cells.proofs.call_slots.CallSlots.+forget.Given as goal

abbrev pub decreases-forget : goal.decreases-forget
decreases-forget l = length l.calls.now
