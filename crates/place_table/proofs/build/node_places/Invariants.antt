use Rattle.std.proofs.Common.{◌≡◌}
use Rattle.place_table.specs.Hosts.{first_places}
use Rattle.place_table.proofs.build.node_places.Given as goal

abbrev pub invariant-loop-i : goal.invariant-loop-i
invariant-loop-i l = l.places.items ≡ first_places l.i l.node
