use Rattle.std.proofs.Common.{List, subst, sym, arith}
use Rattle.place_table.specs.declared.host.HostInfo.{HostInfo}
use Rattle.member_roster.specs.Roster.{AreBacked}
use Rattle.member_roster.specs.Places.{Ascends, host_node}
use Rattle.member_roster.proofs.Counts.{targets_ascend}
use Rattle.member_roster.proofs.roster.Roster.fix.Goals as goal

pub invariant_of-self : goal.invariant_of-self
invariant_of-self c =
    let k = c.self.invariant.0 in
    let r = c.self.invariant.1 in
    let e = c.fix_table.ensures.capacity in
    let t = r.table_capacity in
    (record { ascends = k.ascends; marked = k.marked; spared = rw c.deref.ensures.value at c.fix_table.ensures.long; backed = (let b = c.fix_table.ensures.backed in subst (λ (hs : List HostInfo). AreBacked hs c.fix_table.new.spares.items c.fix_table.new.table.items) c.deref.ensures.value b); few = k.few; within = k.within; ordered = subst (λ (hs : List HostInfo). Ascends host_node hs) (sym c.fix_table.ensures.table) (targets_ascend c.deref.result.now c.deref-2.result.now (subst (λ (hs : List HostInfo). Ascends host_node hs) (sym c.deref.ensures.value) k.ascends)); counted = k.counted }, record { hosts_capacity = r.hosts_capacity; marks_capacity = r.marks_capacity; spares_capacity = rw c.fix_table.ensures.spares_capacity r.spares_capacity; table_capacity = omega arith })
