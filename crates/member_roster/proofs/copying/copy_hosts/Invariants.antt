use Rattle.std.proofs.Common.{◌≡◌, ◌≤◌, take}
use Rattle.std.specs.Vec.{vec_capacity}
use Rattle.member_roster.proofs.copying.copy_hosts.Given as goal

abbrev pub invariant-loop-host : goal.invariant-loop-host
invariant-loop-host l = record { items : l.items.items ≡ take l.host-index l.hosts; capacity : l.capacity ≤ vec_capacity l.items }
