use Rattle.std.specs.Prelude.{IfSome}
use Rattle.std.proofs.Common.{subst}
use Rattle.placement_node.specs.Node.{NodeState}
use Rattle.placement_node.specs.Trials.{Tries}
use Rattle.placement_node.specs.declared.trial.Tried.{Tried}
use Rattle.placement_node.proofs.node.PlacementNode.tried.Goals as goal

pub try_step-requires-clause-kept : goal.try_step-requires-clause-kept
try_step-requires-clause-kept g c = c.self.invariant.0

pub returns : goal.returns
returns g c = subst (λ (n : NodeState). IfSome c.try_step.result (λ (t : Tried). Tries c.args.event c.args.now n.state t.placement t.answer)) c.self.view_is c.try_step.ensures
