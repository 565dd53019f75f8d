use Rattle.std.proofs.Common.{◌≡◌, drop}
use Rattle.fence_rows.specs.Fences.{reserved_from}
use Rattle.fence_rows.proofs.operations.reserved_op.Given as goal

abbrev pub invariant-loop-op : goal.invariant-loop-op
invariant-loop-op l = (l.at ≡ l.op-index) × (reserved_from 0 l.ops ≡ reserved_from l.op-index (drop l.op-index l.ops))
