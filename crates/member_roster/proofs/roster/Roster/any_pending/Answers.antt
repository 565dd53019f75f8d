use Rattle.std.proofs.Common.{ℕ, nat_lt, sym, ap, ◌∙◌}
use Rattle.member_roster.proofs.Counts.{count-any}
use Rattle.member_roster.proofs.Rosters.{any_pending-joined_all}
use Rattle.member_roster.proofs.roster.Roster.any_pending.Goals as goal

pub returns : goal.returns
returns c =
    rw (← c.self.view_is) (ap (λ (n : ℕ). nat_lt 0 n) c.self.invariant.0.counted ∙ sym (count-any c.self.inside.marks.items) ∙ sym (any_pending-joined_all c.self.inside.hosts.items c.self.inside.marks.items c.self.invariant.0.marked))
