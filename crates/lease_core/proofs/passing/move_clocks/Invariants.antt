use Rattle.std.proofs.Common.{◌≡◌, ◌++◌, take, drop, false, length}
use Rattle.lease_core.specs.Book.{moved, any_past}
use Rattle.lease_core.proofs.passing.move_clocks.Given as goal

-- the members that have moved, and those that are left, of which no clock passes the bound
abbrev pub invariant-loop-at : goal.invariant-loop-at
invariant-loop-at l =
    record {
      whole : take l.at l.members ++ moved (drop l.at l.steps) (drop l.at l.members) ≡ moved l.steps l.initial.members;
      within : any_past (drop l.at l.steps) (drop l.at l.members) ≡ false;
      lengths : length l.steps ≡ length l.members;
    }
