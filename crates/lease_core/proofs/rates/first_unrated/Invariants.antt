use Rattle.std.proofs.Common.{◌≡◌, drop}
use Rattle.lease_core.specs.Lease.{first_unrated}
use Rattle.lease_core.proofs.rates.first_unrated.Given as goal

abbrev pub invariant-loop-at : goal.invariant-loop-at
invariant-loop-at l = first_unrated l.placement 0 l.steps ≡ first_unrated l.placement l.at (drop l.at l.steps)
