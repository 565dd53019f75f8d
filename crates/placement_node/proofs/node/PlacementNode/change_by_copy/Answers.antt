use Rattle.std.proofs.Common.{sym, subst}
use Rattle.placement_node.specs.declared.reply.NodeEvent.{NodeEvent}
use Rattle.placement_node.specs.declared.reply.NodeReply.{NodeReply}
use Rattle.placement_node.specs.Node.{NodeMoves}
use Rattle.placement_node.specs.Ranges.{ReplyFits}
use Rattle.placement_node.proofs.Sent.{memory_sent}
use Rattle.placement_node.proofs.Steps.{memory_moves, kept_moves}
use Rattle.placement_node.proofs.node.PlacementNode.change_by_copy.Goals as goal

pub returns-in-None-clause-moves : goal.returns-in-None-clause-moves
returns-in-None-clause-moves g c =
    let old = c.args.self.now in
    let event : NodeEvent = record { event = c.args.event; now = c.args.now } in
    subst (λ (r : NodeReply). NodeMoves old event r old) (sym c.refused.ensures) (memory_moves old event c.requires.works)

pub returns-in-None-clause-fits : goal.returns-in-None-clause-fits
returns-in-None-clause-fits g c = subst ReplyFits (sym c.refused.ensures) memory_sent

pub returns-in-Some-clause-moves : goal.returns-in-Some-clause-moves
returns-in-Some-clause-moves g c =
    let old = c.args.self.now in
    let new = c.keep-kept.new.self in
    let event : NodeEvent = record { event = c.args.event; now = c.args.now } in
    subst (λ (r : NodeReply). NodeMoves old event r new) (sym c.answered.ensures.is)
    (kept_moves old new c.args.event c.args.now c.in-Some.tried.placement c.in-Some.tried.answer c.requires.works c.in-Some.ensures c.keep-kept.result c.keep-kept.ensures)
