use Rattle.std.proofs.Common.{◌∙◌, sym}
use Rattle.place_table.proofs.NodeOrder.{nodes_allowed}
use Rattle.place_table.proofs.table.make_table.Goals as goal

pub sorted_hosts-requires : goal.sorted_hosts-requires
sorted_hosts-requires c = nodes_allowed c.args.space.now c.args.hosts.now (sym c.table_fault.ensures ∙ c.in-None.is)
