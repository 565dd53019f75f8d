use Rattle.std.proofs.Common.{◌≡◌, ◌+◌, ◌++◌, ◌≤◌, take, drop, length}
use Rattle.std.specs.VecDeque.{deque_len}
use Rattle.turn_core.specs.Cell.{unmoved, all_moved}
use Rattle.turn_core.proofs.queue.move_queue.Given as goal

abbrev pub invariant-loop-i : goal.invariant-loop-i
invariant-loop-i l =
    record {
      moved : all_moved (take l.i l.fn.queue.items) ++ drop l.i l.fn.queue.items ≡ l.queue.items;
      count : l.count + unmoved (drop l.i l.fn.queue.items) ≡ unmoved l.fn.queue.items;
      few : l.count ≤ l.i;
      len : deque_len l.queue ≡ l.i-end;
      whole : l.i-end ≡ length l.fn.queue.items;
    }
