use Rattle.std.proofs.Common.{List, [], refl, ap, sym, subst, ◌∙◌}
use Rattle.std.proofs.lemmas.List.{length-map}
use Rattle.place_table.specs.declared.host.HostInfo.{HostInfo}
use Rattle.member_roster.specs.declared.marks.Mark.{Mark}
use Rattle.member_roster.specs.Members.{Joined, restarted_at}
use Rattle.member_roster.specs.Roster.{RosterState, joined_all, restarted_mark, AreSpare}
use Rattle.member_roster.specs.Places.{Ascends, host_node}
use Rattle.member_roster.proofs.Counts.{count-restarted}
use Rattle.member_roster.proofs.Backed.{spare_all, length-spare}
use Rattle.member_roster.proofs.Rosters.{joined_all-map}
use Rattle.member_roster.proofs.roster.Roster.restart.Goals as goal

pub invariant_of-self : goal.invariant_of-self
invariant_of-self c =
    let k = c.self.invariant.0 in
    let r = c.self.invariant.1 in
    let s : AreSpare c.self.inside.hosts.items c.give_back_all.new.spares.items = subst (λ (hs : List HostInfo). AreSpare hs c.give_back_all.new.spares.items) c.deref.ensures.value c.give_back_all.ensures.spares in
    (record { ascends = k.ascends; marked = rw (c.restart_marks.ensures.items, length-map) k.marked; spared = length-spare c.self.inside.hosts.items c.give_back_all.new.spares.items s; backed = spare_all c.self.inside.hosts.items c.give_back_all.new.spares.items c.give_back_all.new.table.items s; few = k.few; within = k.within; ordered = subst (λ (t : List HostInfo). Ascends host_node t) (sym c.give_back_all.ensures.table) tt; counted = rw c.restart_marks.ensures.items (sym (count-restarted c.args.now c.self.inside.marks.items)) }, record { hosts_capacity = r.hosts_capacity; marks_capacity = rw c.restart_marks.ensures.capacity r.marks_capacity; spares_capacity = rw c.give_back_all.ensures.spares_capacity r.spares_capacity; table_capacity = rw c.give_back_all.ensures.capacity r.table_capacity })

pub returns : goal.returns
returns c =
    let f : List Joined → RosterState = λ js. record { members = js; table = []; capacity = c.self.inside.capacity } in
    rw (← c.self.view_is, c.give_back_all.ensures.table) (ap (λ (ms : List Mark). f (joined_all c.self.inside.hosts.items ms)) c.restart_marks.ensures.items ∙ ap f (sym (joined_all-map (restarted_mark c.args.now) (restarted_at c.args.now) c.self.inside.hosts.items c.self.inside.marks.items (λ h k. refl))))
