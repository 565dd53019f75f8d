use Rattle.std.proofs.Common.{ap, ◌∙◌}
use Rattle.placement_node.specs.Node.{NodeState}
use Rattle.placement_node.proofs.node.PlacementNode.is_shut.Goals as goal

pub returns : goal.returns
returns g c = c.is_broken.ensures ∙ ap (λ (n : NodeState). n.journal.is_broken) c.self.view_is
