use Rattle.std.proofs.Common.{◌≡◌, drop}
use Rattle.place_table.specs.Hosts.{other_space_fault}
use Rattle.place_table.proofs.faults.other_space_fault.Given as goal

abbrev pub invariant-loop-host : goal.invariant-loop-host
invariant-loop-host l = other_space_fault l.space l.hosts ≡ other_space_fault l.space (drop l.host-index l.hosts)
