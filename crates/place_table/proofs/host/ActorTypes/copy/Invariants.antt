use Rattle.std.proofs.Common.{◌≡◌, take}
use Rattle.place_table.proofs.host.ActorTypes.copy.Given as goal

abbrev pub invariant-loop-kind : goal.invariant-loop-kind
invariant-loop-kind l = l.items.items ≡ take l.kind-index l.kind-items
