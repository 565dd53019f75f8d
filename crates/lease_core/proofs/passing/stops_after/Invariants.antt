use Rattle.std.proofs.Common.{◌≡◌, ◌≤◌, ◌+◌, ◌-◌, ◌^◌, min, drop, false, length}
use Rattle.lease_core.specs.Book.{moved, any_past, stops_for}
use Rattle.lease_core.proofs.passing.stops_after.Given as goal

-- the stops so far with those of the members that are left, none of whose clocks passes the bound
abbrev pub invariant-loop-at : goal.invariant-loop-at
invariant-loop-at l =
    record {
      counted : min (length (stops_for l.parts (moved l.steps l.members))) (2 ^ 64 - 1) ≡ min (l.stops + length (stops_for l.parts (moved (drop l.at l.steps) (drop l.at l.members)))) (2 ^ 64 - 1);
      fits : l.stops ≤ 2 ^ 64 - 1;
      within : any_past (drop l.at l.steps) (drop l.at l.members) ≡ false;
    }
