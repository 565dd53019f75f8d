use Rattle.std.proofs.Common.{arith}
use Rattle.member_roster.proofs.Rosters.{length-joined_all}
use Rattle.member_roster.proofs.roster.Roster.reserve.Goals as goal

pub returns-then-wanted-self-clause-capacity : goal.returns-then-wanted-self-clause-capacity
returns-then-wanted-self-clause-capacity c =
    let l = length-joined_all c.self.inside.hosts.items c.self.inside.marks.items c.self.invariant.0.marked in
    let e = c.self.inside.hosts.ok.0 in
    rw (← c.self.view_is) (omega arith)

pub returns-clause-capacity : goal.returns-clause-capacity
returns-clause-capacity c =
    let l = length-joined_all c.self.inside.hosts.items c.self.inside.marks.items c.self.invariant.0.marked in
    let e = c.self.inside.hosts.ok.0 in
    rw (← c.self.view_is) (omega arith)

pub returns-clause-most : goal.returns-clause-most
returns-clause-most c =
    let l = length-joined_all c.self.inside.hosts.items c.self.inside.marks.items c.self.invariant.0.marked in
    let e = c.self.inside.hosts.ok.0 in
    rw (← c.self.view_is) (omega arith)
