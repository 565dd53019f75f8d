use Rattle.std.proofs.Common.{◌≡◌, ◌++◌, map, take, drop}
use Rattle.member_roster.specs.Roster.{restarted_mark}
use Rattle.member_roster.proofs.marks.restart_marks.Given as goal

abbrev pub invariant-loop-mark : goal.invariant-loop-mark
invariant-loop-mark l = l.mark-items ≡ map (restarted_mark l.fn.now) (take l.mark-index l.initial.mark-items) ++ drop l.mark-index l.initial.mark-items
