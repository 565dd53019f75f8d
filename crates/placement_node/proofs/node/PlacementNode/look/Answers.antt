use Rattle.std.proofs.Common.{inl, inr, List, map, ap, ◌∙◌, subst}
use Rattle.placement_core.specs.Runs.{AreRooms}
use Rattle.placement_node.specs.declared.reply.NodeReply.TheVariants.{Seen}
use Rattle.placement_node.specs.declared.reply.RoomSeen.{RoomSeen}
use Rattle.placement_node.specs.Node.{NodeState}
use Rattle.placement_node.specs.Replies.{seen_room}
use Rattle.placement_node.proofs.node.PlacementNode.look.Goals as goal

pub returns-in-Ok-clause-looks : goal.returns-in-Ok-clause-looks
returns-in-Ok-clause-looks g c = inl (ap (λ (rooms : List RoomSeen). Seen rooms) (c.in-Ok.ensures ∙ ap (λ (n : NodeState). map seen_room n.state.rooms) c.self.view_is))

pub returns-in-Ok-clause-order : goal.returns-in-Ok-clause-order
returns-in-Ok-clause-order g c = subst (λ (n : NodeState). AreRooms n.state.rooms) c.self.view_is c.rooms-rooms.ensures.order

pub returns-in-Err-clause-looks : goal.returns-in-Err-clause-looks
returns-in-Err-clause-looks g c = inr c.refused.ensures

pub returns-in-Err-clause-order : goal.returns-in-Err-clause-order
returns-in-Err-clause-order g c = subst (λ (n : NodeState). AreRooms n.state.rooms) c.self.view_is c.rooms-rooms.ensures.order
