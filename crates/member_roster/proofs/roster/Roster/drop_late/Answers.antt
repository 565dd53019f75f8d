use Rattle.std.proofs.Common.{◌+◌, ◌≤◌, length, arith}
use Rattle.member_roster.specs.Roster.{joined_all}
use Rattle.member_roster.proofs.Rosters.{length-joined_all}
use Rattle.member_roster.proofs.roster.Roster.drop_late.Goals as goal

pub drop_late-requires-clause-capacity : goal.drop_late-requires-clause-capacity
drop_late-requires-clause-capacity c =
    let l = length-joined_all c.self.inside.hosts.items c.self.inside.marks.items c.self.invariant.0.marked in
    let r : length c.args.removed.now.members + length (joined_all c.self.inside.hosts.items c.self.inside.marks.items) ≤ c.args.removed.now.capacity = rw (← c.self.view_is) at c.requires in
    omega arith
