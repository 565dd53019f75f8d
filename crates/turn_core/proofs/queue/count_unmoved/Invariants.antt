use Rattle.std.proofs.Common.{◌≡◌, ◌+◌, ◌≤◌, drop, length}
use Rattle.turn_core.specs.Cell.{unmoved}
use Rattle.turn_core.proofs.queue.count_unmoved.Given as goal

abbrev pub invariant-loop-i : goal.invariant-loop-i
invariant-loop-i l =
    record {
      count : l.count + unmoved (drop l.i l.queue.items) ≡ unmoved l.queue.items;
      few : l.count ≤ l.i;
      whole : l.i-end ≡ length l.queue.items;
    }
