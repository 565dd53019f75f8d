use Rattle.std.proofs.Common.{◌≡◌, take}
use Rattle.sidecar_node.proofs.making.copy_kinds.Given as goal

abbrev pub invariant-loop-kind : goal.invariant-loop-kind
invariant-loop-kind l = l.items.items ≡ take l.kind-index l.kind-items
