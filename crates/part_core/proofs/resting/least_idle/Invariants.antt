use Rattle.std.proofs.Common.{◌≡◌, drop}
use Rattle.part_core.specs.Quiet.{least_or, least_idle}
use Rattle.part_core.proofs.resting.least_idle.Given as goal

abbrev pub invariant-loop-settings : goal.invariant-loop-settings
invariant-loop-settings l = least_or l.least (drop l.settings-index l.kinds) ≡ least_idle l.kinds
