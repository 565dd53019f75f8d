use Rattle.std.proofs.Common.{ap, ◌∙◌}
use Rattle.tx_journal.specs.Calls.{first_side}
use Rattle.placement_node.specs.Node.{NodeState}
use Rattle.placement_node.proofs.node.PlacementNode.disk.Goals as goal

pub returns : goal.returns
returns g c = c.disk.ensures ∙ ap (λ (n : NodeState). first_side n.journal) c.self.view_is
