use Rattle.std.proofs.Common.{rules}
use Rattle.std.specs.Ordering.{is_lt}
use Rattle.std.proofs.lemmas.Fn.{always_returns_same}
use Rattle.place_table.specs.declared.host.HostInfo.{HostInfo}
use Rattle.place_table.specs.Hosts.{node_cmp}
use Rattle.place_table.proofs.NodeOrder.{node_order}
use Rattle.place_table.proofs.sort.sort_hosts.Goals as goal

pub returns-clause-sorted : goal.returns-clause-sorted
returns-clause-sorted c = c.sort_unstable_by.ensures.sorted (λ (a b : HostInfo). is_lt (node_cmp a b)) node_order (always_returns_same _ _ _ (λ a r q k. search rules))
