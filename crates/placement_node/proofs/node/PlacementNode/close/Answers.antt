use Rattle.std.proofs.Common.{ap, ◌∙◌}
use Rattle.tx_journal.specs.Calls.{first_side}
use Rattle.placement_node.specs.Node.{NodeState}
use Rattle.placement_node.proofs.Restarting.{no_second, mapped_none}
use Rattle.placement_node.proofs.node.PlacementNode.close.Goals as goal

pub returns-clause-first : goal.returns-clause-first
returns-clause-first g c = c.close.ensures.first ∙ ap (λ (n : NodeState). first_side n.journal) c.self.view_is

pub returns-clause-second : goal.returns-clause-second
returns-clause-second g c = mapped_none _ c.close.result.1 (c.close.ensures.second ∙ no_second c.self.inside.journal c.self.invariant.1)
