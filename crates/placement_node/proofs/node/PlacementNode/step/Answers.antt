use Rattle.std.proofs.Common.{sym, subst}
use Rattle.placement_node.specs.Ranges.{ReplyFits}
use Rattle.placement_node.proofs.Sent.{reopen_sent}
use Rattle.placement_node.proofs.Steps.{look_fits}
use Rattle.placement_node.proofs.node.PlacementNode.step.Goals as goal

pub returns-then-is_shut-clause-fits : goal.returns-then-is_shut-clause-fits
returns-then-is_shut-clause-fits g c = subst ReplyFits (sym c.refused.ensures) reopen_sent

pub returns-then-is_look-clause-fits : goal.returns-then-is_look-clause-fits
returns-then-is_look-clause-fits g c = look_fits c.args.self.now.state c.look.result c.look.ensures.looks
