use Rattle.std.proofs.Common.{arith}
use Rattle.member_roster.proofs.Rosters.{length-joined_all}
use Rattle.member_roster.proofs.roster.Roster.len.Goals as goal

pub returns-clause-count : goal.returns-clause-count
returns-clause-count c =
    let l = length-joined_all c.self.inside.hosts.items c.self.inside.marks.items c.self.invariant.0.marked in
    let e = c.self.inside.hosts.ok.0 in
    rw (← c.self.view_is) (omega arith)
