use Rattle.std.proofs.Common.{◌≡◌, map, take}
use Rattle.placement_node.specs.Replies.{seen_room}
use Rattle.placement_node.proofs.answer.seen_rooms.Given as goal

abbrev pub invariant-loop-at : goal.invariant-loop-at
invariant-loop-at l = l.items.items ≡ map seen_room (take l.at l.placement.state.rooms)
