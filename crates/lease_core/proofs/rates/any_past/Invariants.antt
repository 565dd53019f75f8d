use Rattle.std.proofs.Common.{◌≡◌, drop}
use Rattle.lease_core.specs.Book.{any_past}
use Rattle.lease_core.proofs.rates.any_past.Given as goal

abbrev pub invariant-loop-at : goal.invariant-loop-at
invariant-loop-at l = any_past l.steps l.members ≡ any_past (drop l.at l.steps) (drop l.at l.members)
