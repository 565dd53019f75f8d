use Rattle.std.proofs.Common.{◌≡◌, drop}
use Rattle.state_rows.specs.Checks.{first_fault}
use Rattle.state_rows.proofs.check.first_fault.Given as goal

abbrev pub invariant-loop-op : goal.invariant-loop-op
invariant-loop-op l = (l.at ≡ l.op-index) × (first_fault 0 l.ops ≡ first_fault l.op-index (drop l.op-index l.ops))
