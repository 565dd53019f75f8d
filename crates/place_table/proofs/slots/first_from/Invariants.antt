use Rattle.std.proofs.Common.{◌≡◌, ℕ, ◌+◌, ◌-◌, ◌*◌, ◌^◌, ◌<◌, ◌≤◌, length, get_or, true, false}
use Rattle.std.specs.Prelude.{nat_le}
use Rattle.place_table.specs.declared.table.Slot.{Slot}
use Rattle.place_table.proofs.slots.first_from.Given as goal

abbrev pub invariant-loop-low : goal.invariant-loop-low
invariant-loop-low g l = record {
  ordered : l.low ≤ l.high;
  within : l.high ≤ length l.slots;
  before : (k : ℕ) (d : Slot) → k < l.low → nat_le l.place (get_or l.slots k d).place ≡ false;
  from : (k : ℕ) (d : Slot) → l.high ≤ k → k < length l.slots → nat_le l.place (get_or l.slots k d).place ≡ true;
  counted : l.fn.steps ≤ l.steps;
  halves : 2 ^ (l.steps - l.fn.steps) * (l.high - l.low) ≤ length l.slots;
  few : 2 ^ (l.steps - l.fn.steps) ≤ 2 * length l.slots + 2;
}

abbrev pub decreases-loop-low : goal.decreases-loop-low
decreases-loop-low g l = l.high - l.low
