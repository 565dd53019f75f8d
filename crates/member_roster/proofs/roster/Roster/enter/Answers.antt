use Rattle.std.proofs.lemmas.List.{length-map}
use Rattle.std.proofs.Common.{List, sym, ◌∙◌, ap, refl}
use Rattle.member_roster.specs.declared.marks.Mark.{Mark}
use Rattle.member_roster.specs.Members.{Joined, entered}
use Rattle.member_roster.specs.Roster.{RosterState, joined_all, entered_mark}
use Rattle.member_roster.proofs.Rosters.{joined_all-map}
use Rattle.member_roster.proofs.roster.Roster.enter.Goals as goal

pub returns : goal.returns
returns c =
    let f : List Joined → RosterState = λ js. record { members = js; table = c.self.inside.table.items; capacity = c.self.inside.capacity } in
    rw (← c.self.view_is) (ap (λ (ms : List Mark). f (joined_all c.self.inside.hosts.items ms)) c.enter_marks-pending.ensures.items ∙ ap f (sym (joined_all-map entered_mark entered c.self.inside.hosts.items c.self.inside.marks.items (λ h k. refl))))

pub invariant_of-self : goal.invariant_of-self
invariant_of-self c =
    let k = c.self.invariant.0 in
    let r = c.self.invariant.1 in
    (record { ascends = k.ascends; marked = rw (c.enter_marks-pending.ensures.items, length-map) k.marked; spared = k.spared; backed = k.backed; few = k.few; within = k.within; ordered = k.ordered; counted = c.enter_marks-pending.ensures.count }, record { hosts_capacity = r.hosts_capacity; marks_capacity = rw c.enter_marks-pending.ensures.capacity r.marks_capacity; spares_capacity = r.spares_capacity; table_capacity = r.table_capacity })
