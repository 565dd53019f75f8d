use Rattle.std.proofs.lemmas.List.Edits.{length-insert}
use Rattle.member_roster.proofs.Places.{err_within}
use Rattle.member_roster.proofs.Ascending.{ascends_insert}
use Rattle.member_roster.proofs.Backed.{backed_insert}
use Rattle.member_roster.proofs.Counts.{count-insert}
use Rattle.member_roster.proofs.Rosters.{put_joined-at}
use Rattle.member_roster.specs.Members.{of_node}
use Rattle.std.proofs.Common.{◌<◌, ◌≤◌, length, arith, ◌≡◌, List, sym, ◌∙◌, ap, Ok, Err, Some, None, false}
use Rattle.member_roster.specs.Members.{Joined}
use Rattle.member_roster.specs.Places.{host_node, place_by}
use Rattle.member_roster.specs.Roster.{RosterState, joined_all}
use Rattle.member_roster.proofs.Rosters.{no_host, no_mark, of_node-found, length-joined_all}
use Rattle.member_roster.proofs.roster.Roster.join.Goals as goal

pub unreachable-requires : goal.unreachable-requires
unreachable-requires c =
    let p : place_by host_node c.args.host.member.node c.self.inside.hosts.items ≡ Ok c.in-Ok.field-0 = rw c.deref.ensures.value at (sym c.host_place.ensures.place ∙ c.in-Ok.is) in
    let found = of_node-found c.args.host.member.node c.self.inside.hosts.items c.self.inside.marks.items c.in-Ok.field-0 no_host no_mark c.self.invariant.0.marked p in
    let free : of_node (joined_all c.self.inside.hosts.items c.self.inside.marks.items) c.args.host.member.node ≡ None = rw (← c.self.view_is) at c.requires.free in
    absurd (cc)

pub insert_reserved-requires-clause-capacity : goal.insert_reserved-requires-clause-capacity
insert_reserved-requires-clause-capacity c =
    let l = length-joined_all c.self.inside.hosts.items c.self.inside.marks.items c.self.invariant.0.marked in
    let r : length (joined_all c.self.inside.hosts.items c.self.inside.marks.items) < c.self.inside.capacity = rw (← c.self.view_is) at c.requires.capacity in
    let e = c.self.inside.hosts.ok.0 in
    let h = c.self.invariant.1.hosts_capacity in
    omega arith

pub insert_reserved-requires-in-Err-clause-capacity : goal.insert_reserved-requires-in-Err-clause-capacity
insert_reserved-requires-in-Err-clause-capacity c =
    let l = length-joined_all c.self.inside.hosts.items c.self.inside.marks.items c.self.invariant.0.marked in
    let r : length (joined_all c.self.inside.hosts.items c.self.inside.marks.items) < c.self.inside.capacity = rw (← c.self.view_is) at c.requires.capacity in
    let e = c.self.inside.marks.ok.0 in
    let m = c.self.invariant.0.marked in
    let h = c.self.invariant.1.marks_capacity in
    omega arith

pub insert_reserved-requires-in-Err-2-clause-capacity : goal.insert_reserved-requires-in-Err-2-clause-capacity
insert_reserved-requires-in-Err-2-clause-capacity c =
    let l = length-joined_all c.self.inside.hosts.items c.self.inside.marks.items c.self.invariant.0.marked in
    let r : length (joined_all c.self.inside.hosts.items c.self.inside.marks.items) < c.self.inside.capacity = rw (← c.self.view_is) at c.requires.capacity in
    let e = c.self.inside.spares.ok.0 in
    let m = c.self.invariant.0.spared in
    let h = c.self.invariant.1.spares_capacity in
    omega arith

pub invariant_of-self : goal.invariant_of-self
invariant_of-self c =
    let k = c.self.invariant.0 in
    let r = c.self.invariant.1 in
    let hs = c.self.inside.hosts.items in
    let i = c.in-Err.at in
    let p : place_by host_node c.args.host.member.node c.self.inside.hosts.items ≡ Err c.in-Err.at = rw c.deref.ensures.value at (sym c.host_place.ensures.place ∙ c.in-Err.is) in
    let within : i ≤ length hs = err_within host_node c.args.host.member.node hs i p in
    let l = length-joined_all c.self.inside.hosts.items c.self.inside.marks.items k.marked in
    let capacity : length (joined_all c.self.inside.hosts.items c.self.inside.marks.items) < c.self.inside.capacity = rw (← c.self.view_is) at c.requires.capacity in
    let few : length (joined_all c.self.inside.hosts.items c.self.inside.marks.items) < 256 = rw (← c.self.view_is) at c.requires.few in
    let a = length-insert hs i c.args.host within in
    let b = length-insert c.self.inside.marks.items i (record { heard = c.args.now; target = false; pending = false }) (rw k.marked within) in
    let d = length-insert c.self.inside.spares.items i (Some c.args.spare) (rw k.spared within) in
    let km = k.marked in
    let ks = k.spared in
    let hr = r.hosts_capacity in
    let mr = r.marks_capacity in
    let sr = r.spares_capacity in
    let h2 = c.insert_reserved.ensures.capacity in
    let m2 = c.insert_reserved-in-Err.ensures.capacity in
    let s2 = c.insert_reserved-in-Err-2.ensures.capacity in (
      record {
        ascends = rw c.insert_reserved.ensures.items (ascends_insert host_node c.args.host hs i p k.ascends);
        marked = rw (c.insert_reserved.ensures.items, c.insert_reserved-in-Err.ensures.items) (omega arith);
        spared = rw (c.insert_reserved.ensures.items, c.insert_reserved-in-Err-2.ensures.items) (omega arith);
        backed = rw (c.insert_reserved.ensures.items, c.insert_reserved-in-Err-2.ensures.items) (backed_insert hs c.self.inside.spares.items c.self.inside.table.items i c.args.host c.args.spare c.requires.copy k.backed);
        few = rw c.insert_reserved.ensures.items (omega arith);
        within = rw c.insert_reserved.ensures.items (omega arith);
        ordered = k.ordered;
        counted = rw c.insert_reserved-in-Err.ensures.items (let n = count-insert c.self.inside.marks.items i (record { heard = c.args.now; target = false; pending = false }) in let kc = k.counted in omega arith);
      },
      record { hosts_capacity = omega arith; marks_capacity = omega arith; spares_capacity = omega arith; table_capacity = r.table_capacity },
    )

pub returns : goal.returns
returns c =
    let p : place_by host_node c.args.host.member.node c.self.inside.hosts.items ≡ Err c.in-Err.at = rw c.deref.ensures.value at (sym c.host_place.ensures.place ∙ c.in-Err.is) in
    let f : List Joined → RosterState = λ js. record { members = js; table = c.self.inside.table.items; capacity = c.self.inside.capacity } in
    rw (← c.self.view_is, c.insert_reserved.ensures.items, c.insert_reserved-in-Err.ensures.items) (ap f (sym (put_joined-at c.args.host (record { heard = c.args.now; target = false; pending = false }) c.self.inside.hosts.items c.self.inside.marks.items c.in-Err.at c.self.invariant.0.marked p)))
