use Rattle.std.proofs.Common.{◌≡◌, drop}
use Rattle.place_table.specs.Hosts.{types_fault}
use Rattle.place_table.proofs.faults.types_fault.Given as goal

abbrev pub invariant-loop-host : goal.invariant-loop-host
invariant-loop-host l = types_fault l.hosts ≡ types_fault (drop l.host-index l.hosts)
