use Rattle.std.proofs.Common.{◌≤◌, length}
use Rattle.placement_node.proofs.written.entry_count.Given as goal

abbrev pub invariant-loop-at : goal.invariant-loop-at
invariant-loop-at l = l.at ≤ length l.placement.recent
