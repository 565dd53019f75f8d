use Rattle.std.proofs.Common.{◌≡◌, drop}
use Rattle.placement_beats.specs.Answers.{any_stopped}
use Rattle.placement_beats.proofs.answers.any_stopped.Given as goal

abbrev pub invariant-loop-said : goal.invariant-loop-said
invariant-loop-said l = any_stopped l.saids ≡ any_stopped (drop l.said-index l.saids)
