use Rattle.std.proofs.Common.{◌≡◌, take}
use Rattle.placement_node.proofs.answer.copy_hosts.Given as goal

abbrev pub invariant-loop-host : goal.invariant-loop-host
invariant-loop-host l = l.items.items ≡ take l.host-index l.hosts
