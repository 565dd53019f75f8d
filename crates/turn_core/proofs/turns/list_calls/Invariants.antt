use Rattle.std.proofs.Common.{◌≡◌, ◌+◌, ◌≤◌, ◌++◌, length, drop, vec_len, vec_capacity}
use Rattle.turn_core.specs.Cell.{turn_calls}
use Rattle.turn_core.proofs.turns.list_calls.Given as goal

abbrev pub invariant-loop-turn : goal.invariant-loop-turn
invariant-loop-turn l =
    record {
      items : l.calls.items ++ turn_calls (drop l.turn-index l.turns) ≡ l.fn.calls.items ++ turn_calls l.turns;
      left : vec_len l.calls + length l.turns ≤ vec_capacity l.calls + l.turn-index;
      room : vec_capacity l.fn.calls ≤ vec_capacity l.calls;
    }
