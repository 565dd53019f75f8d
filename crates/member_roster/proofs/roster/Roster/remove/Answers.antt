use Rattle.std.proofs.lemmas.List.Edits.{length-remove}
use Rattle.member_roster.proofs.Ascending.{ascends_remove}
use Rattle.member_roster.proofs.Backed.{backed_remove}
use Rattle.std.proofs.Common.{◌<◌, length, arith, ◌≡◌, List, sym, ap, Ok}
use Rattle.member_roster.specs.Members.{Joined}
use Rattle.member_roster.specs.Places.{host_node, place_by}
use Rattle.member_roster.specs.Roster.{RosterState, mark_weight}
use Rattle.member_roster.proofs.Counts.{count-remove}
use Rattle.member_roster.proofs.Rosters.{without_node-found}
use Rattle.member_roster.proofs.roster.Roster.remove.Goals as goal

pub invariant_of-self : goal.invariant_of-self
invariant_of-self c =
    let k = c.self.invariant.0 in
    let r = c.self.invariant.1 in
    let hs = c.self.inside.hosts.items in
    let i = c.in-Some.at in
    let within : i < length hs = rw c.deref.ensures.value at (rw c.in-Some.is at c.member_place.ensures.within) in
    let a = length-remove hs i within in
    let b = length-remove c.self.inside.marks.items i (rw k.marked within) in
    let d = length-remove c.self.inside.spares.items i (rw k.spared within) in
    let km = k.marked in
    let ks = k.spared in
    let kf = k.few in
    let kw = k.within in (
      record {
        ascends = rw c.remove-host.ensures.items (ascends_remove host_node hs i k.ascends);
        marked = rw (c.remove-host.ensures.items, c.remove-mark.ensures.items) (omega arith);
        spared = rw (c.remove-host.ensures.items, c.remove-spare.ensures.items) (omega arith);
        backed = rw (c.remove-host.ensures.items, c.remove-spare.ensures.items) (backed_remove hs c.self.inside.spares.items c.self.inside.table.items i k.backed);
        few = rw c.remove-host.ensures.items (omega arith);
        within = rw c.remove-host.ensures.items (omega arith);
        ordered = k.ordered;
        counted = rw c.remove-mark.ensures.items (let e = count-remove c.self.inside.marks.items i c.remove-mark.result (rw k.marked within) in let w = ap mark_weight c.remove-mark.ensures.value in let x = c.weigh_mark-weight.ensures in let kc = k.counted in omega arith);
      },
      record { hosts_capacity = rw c.remove-host.ensures.capacity r.hosts_capacity; marks_capacity = rw c.remove-mark.ensures.capacity r.marks_capacity; spares_capacity = rw c.remove-spare.ensures.capacity r.spares_capacity; table_capacity = r.table_capacity },
    )

pub returns-in-Some-clause-removed : goal.returns-in-Some-clause-removed
returns-in-Some-clause-removed c = λ yes.
    let p : place_by host_node c.args.member.now.node c.self.inside.hosts.items ≡ Ok c.in-Some.at = rw c.deref.ensures.value at (rw c.in-Some.is at c.member_place.ensures.place) in
    let f : List Joined → RosterState = λ js. record { members = js; table = c.self.inside.table.items; capacity = c.self.inside.capacity } in
    rw (← c.self.view_is, c.remove-host.ensures.items, c.remove-mark.ensures.items) (ap f (sym (without_node-found c.args.member.now.node c.self.inside.hosts.items c.self.inside.marks.items c.in-Some.at c.self.invariant.0.marked p)))

pub overflow_sub-self : goal.overflow_sub-self
overflow_sub-self c =
    let k = c.self.invariant.0 in
    let hs = c.self.inside.hosts.items in
    let i = c.in-Some.at in
    let within : i < length hs = rw c.deref.ensures.value at (rw c.in-Some.is at c.member_place.ensures.within) in
    let e = count-remove c.self.inside.marks.items i c.remove-mark.result (rw k.marked within) in
    let w = ap mark_weight c.remove-mark.ensures.value in
    let x = c.weigh_mark-weight.ensures in
    let kc = k.counted in
    omega arith
