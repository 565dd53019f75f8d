use Rattle.std.proofs.Common.{subst, List, IsPermutation}
use Rattle.place_table.specs.declared.host.HostInfo.{HostInfo}
use Rattle.place_table.proofs.NodeOrder.{strictly_sorted, distinct_permuted, distinct_allowed}
use Rattle.place_table.proofs.sort.sorted_hosts.Goals as goal

pub returns-clause-order : goal.returns-clause-order
returns-clause-order c =
    let same : IsPermutation c.args.hosts.now c.sort_hosts.new.hosts.items = subst (λ (hs : List HostInfo). IsPermutation hs c.sort_hosts.new.hosts.items) c.in_ok-copies.ensures c.sort_hosts.ensures.same in
    strictly_sorted c.sort_hosts.new.hosts.items c.sort_hosts.ensures.sorted
    (distinct_permuted c.args.hosts.now c.sort_hosts.new.hosts.items same (distinct_allowed c.args.hosts.now c.requires))
