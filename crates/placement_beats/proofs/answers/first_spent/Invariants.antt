use Rattle.std.proofs.Common.{◌≡◌, drop}
use Rattle.sidecar_node.specs.Turns.{first_spent}
use Rattle.placement_beats.proofs.answers.first_spent.Given as goal

abbrev pub invariant-loop-said : goal.invariant-loop-said
invariant-loop-said l = first_spent l.saids ≡ first_spent (drop l.said-index l.saids)
