use Rattle.std.proofs.Common.{◌≡◌, ◌<◌, List, length, length-set, sym, ◌∙◌, ap, Ok, set, refl, false, arith}
use Rattle.member_roster.specs.declared.marks.Mark.{Mark}
use Rattle.member_roster.specs.Members.{Joined, acked_at}
use Rattle.member_roster.specs.Places.{host_node, place_by}
use Rattle.member_roster.specs.Roster.{RosterState, joined_all, mark_weight}
use Rattle.member_roster.proofs.Counts.{count-set}
use Rattle.member_roster.proofs.Rosters.{with_node-found}
use Rattle.member_roster.proofs.roster.Roster.ack.Goals as goal

pub returns-in-Some-clause-acked : goal.returns-in-Some-clause-acked
returns-in-Some-clause-acked c = λ yes.
    let p : place_by host_node c.args.member.now.node c.self.inside.hosts.items ≡ Ok c.in-Some.at = rw c.deref.ensures.value at (rw c.in-Some.is at c.member_place.ensures.place) in
    let f : List Joined → RosterState = λ js. record { members = js; table = c.self.inside.table.items; capacity = c.self.inside.capacity } in
    let g : Mark → Mark = λ k. record k { heard = c.args.now; pending = false } in
    rw (← c.self.view_is) (ap (λ (k : Mark). f (joined_all c.self.inside.hosts.items (set c.self.inside.marks.items c.in-Some.at (g k)))) c.index_mut-mark.ensures.value ∙ ap f (sym (with_node-found c.args.member.now.node c.self.inside.hosts.items c.self.inside.marks.items c.in-Some.at g (acked_at c.args.now) c.index_mut-mark.result.now (λ h k. refl) p)))

pub overflow_sub-self : goal.overflow_sub-self
overflow_sub-self c =
    let k = c.self.invariant.0 in
    let ms = c.self.inside.marks.items in
    let d = c.index.result.now in
    let within : c.in-Some.at < length c.self.inside.hosts.items = rw c.deref.ensures.value at (rw c.in-Some.is at c.member_place.ensures.within) in
    let e = count-set ms c.in-Some.at (record { heard = c.args.now; target = c.index_mut-mark.result.now.target; pending = false }) d (rw k.marked within) in
    let w = ap mark_weight c.index.ensures in
    let x = c.weigh_mark-weight.ensures in
    let kc = k.counted in
    omega arith

pub invariant_of-self : goal.invariant_of-self
invariant_of-self c =
    let k = c.self.invariant.0 in
    let ms = c.self.inside.marks.items in
    let d = c.index.result.now in
    let within : c.in-Some.at < length c.self.inside.hosts.items = rw c.deref.ensures.value at (rw c.in-Some.is at c.member_place.ensures.within) in
    let e = count-set ms c.in-Some.at (record { heard = c.args.now; target = c.index_mut-mark.result.now.target; pending = false }) d (rw k.marked within) in
    let w = ap mark_weight c.index.ensures in
    let x = c.weigh_mark-weight.ensures in
    let kc = k.counted in
    let r = c.self.invariant.1 in
    (record { ascends = k.ascends; marked = rw length-set k.marked; spared = k.spared; backed = k.backed; few = k.few; within = k.within; ordered = k.ordered; counted = omega arith }, record { hosts_capacity = r.hosts_capacity; marks_capacity = r.marks_capacity; spares_capacity = r.spares_capacity; table_capacity = r.table_capacity })
