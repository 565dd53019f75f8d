use Rattle.std.proofs.Common.{◌≡◌, drop, take, []}
use Rattle.place_table.specs.Hosts.{same_node_fault}
use Rattle.place_table.proofs.faults.same_node_fault.Given as goal

abbrev pub invariant-loop-i : goal.invariant-loop-i
invariant-loop-i l = same_node_fault [] l.hosts ≡ same_node_fault (take l.i l.hosts) (drop l.i l.hosts)
