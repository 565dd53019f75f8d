use Rattle.std.proofs.Common.{◌≡◌, ◌≤◌, drop, map}
use Rattle.round_core.specs.Records.{record_of, after_records}
use Rattle.round_core.specs.Sound.{IsRoomSound}
use Rattle.round_core.proofs.restore.apply_records.Given as goal

abbrev pub invariant-loop-i : goal.invariant-loop-i
invariant-loop-i l =
    record {
      rest : after_records 0 l.fn.rounds.state (map record_of l.records) ≡ after_records l.i l.rounds.state (map record_of (drop l.i l.records));
      sound : IsRoomSound l.rounds.state;
      capacity : l.rounds.capacity ≤ l.removed.capacity;
    }
