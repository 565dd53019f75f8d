use Rattle.std.proofs.Common.{◌≡◌, Some, take}
use Rattle.std.specs.List.{slice_get}
use Rattle.placement_core.specs.Placement.{SpaceRoom}
use Rattle.placement_node.specs.Replies.{awaited_of}
use Rattle.placement_node.proofs.round.awaited_at.Given as goal

-- the awaited ones of the members so far
abbrev pub invariant-loop-member : goal.invariant-loop-member
invariant-loop-member l = (r : SpaceRoom) → slice_get l.placement.state.rooms l.at ≡ Some r → l.items.items ≡ awaited_of (take l.member r.room.members)
