use Rattle.std.proofs.Common.{◌≡◌, ◌++◌, map, take, drop}
use Rattle.member_roster.specs.Roster.{entered_mark}
use Rattle.member_roster.proofs.marks.enter_marks.Given as goal

abbrev pub invariant-loop-mark : goal.invariant-loop-mark
invariant-loop-mark l = l.mark-items ≡ map entered_mark (take l.mark-index l.initial.mark-items) ++ drop l.mark-index l.initial.mark-items
