use Rattle.std.proofs.Common.{◌≡◌, ◌++◌, map, take, drop}
use Rattle.member_roster.specs.Roster.{targeted_mark}
use Rattle.member_roster.proofs.marks.target_marks.Given as goal

abbrev pub invariant-loop-mark : goal.invariant-loop-mark
invariant-loop-mark l = l.mark-items ≡ map targeted_mark (take l.mark-index l.initial.mark-items) ++ drop l.mark-index l.initial.mark-items
