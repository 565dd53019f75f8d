use Rattle.std.proofs.Common.{sym, ◌∙◌}
use Rattle.member_roster.proofs.Rosters.{hosts_of-joined_all}
use Rattle.member_roster.proofs.roster.Roster.hosts.Goals as goal

pub returns-clause-hosts : goal.returns-clause-hosts
returns-clause-hosts c = rw (← c.self.view_is) (c.as_slice.ensures.value ∙ sym (hosts_of-joined_all c.self.inside.hosts.items c.self.inside.marks.items c.self.invariant.0.marked))
