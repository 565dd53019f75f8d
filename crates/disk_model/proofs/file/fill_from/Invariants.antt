use Rattle.std.proofs.Common.{◌≡◌, ◌≤◌, ◌+◌, ◌-◌, length, take}
use Rattle.disk_model.proofs.file.fill_from.Given as goal

-- what was appended so far is counted, and what was there before is unchanged
abbrev pub invariant-loop-done : goal.invariant-loop-done
invariant-loop-done g l =
    (l.done ≤ l.most) × (length l.piece ≡ 65536) × (length l.into.items ≡ length l.initial.into.items + l.done) × (take (length l.initial.into.items) l.into.items ≡ l.initial.into.items)

abbrev pub decreases-loop-done : goal.decreases-loop-done
decreases-loop-done g l = l.most - l.done
