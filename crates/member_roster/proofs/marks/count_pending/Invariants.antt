use Rattle.std.proofs.Common.{◌≡◌, ◌≤◌, take}
use Rattle.member_roster.specs.Roster.{pending_count}
use Rattle.member_roster.proofs.marks.count_pending.Given as goal

abbrev pub invariant-loop-i : goal.invariant-loop-i
invariant-loop-i l = record { count : l.count ≡ pending_count (take l.i l.marks); few : l.count ≤ l.i }
