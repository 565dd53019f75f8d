use Rattle.std.proofs.Common.{sym, subst}
use Rattle.placement_node.specs.declared.reply.NodeEvent.{NodeEvent}
use Rattle.placement_node.specs.declared.reply.NodeReply.{NodeReply}
use Rattle.placement_node.specs.Node.{NodeMoves}
use Rattle.placement_node.specs.Ranges.{ReplyFits}
use Rattle.placement_node.proofs.Sent.{memory_sent}
use Rattle.placement_node.proofs.Steps.{memory_moves}
use Rattle.placement_node.proofs.node.PlacementNode.change.Goals as goal

pub returns-in-Some-Err-clause-fits : goal.returns-in-Some-Err-clause-fits
returns-in-Some-Err-clause-fits g c = subst ReplyFits (sym c.refused.ensures) memory_sent

pub returns-in-Some-Err-clause-moves : goal.returns-in-Some-Err-clause-moves
returns-in-Some-Err-clause-moves g c =
    let old = c.args.self.now in
    let event : NodeEvent = record { event = c.args.event; now = c.args.now } in
    subst (λ (r : NodeReply). NodeMoves old event r old) (sym c.refused.ensures) (memory_moves old event c.requires.works)
