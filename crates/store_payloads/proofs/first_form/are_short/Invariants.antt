use Rattle.std.proofs.Common.{◌≡◌, drop}
use Rattle.store_payloads.specs.FirstForm.{are_short}
use Rattle.store_payloads.proofs.first_form.are_short.Given as goal

abbrev pub invariant-loop-op : goal.invariant-loop-op
invariant-loop-op l = are_short l.ops ≡ are_short (drop l.op-index l.ops)
