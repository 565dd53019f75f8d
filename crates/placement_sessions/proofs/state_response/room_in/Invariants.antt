use Rattle.std.proofs.Common.{◌≡◌, drop}
use Rattle.placement_sessions.specs.StateTexts.{room_in}
use Rattle.placement_sessions.proofs.state_response.room_in.Given as goal

-- no room so far is that of the space
abbrev pub invariant-loop-room : goal.invariant-loop-room
invariant-loop-room l = room_in (drop l.room-index l.rooms) l.space ≡ room_in l.rooms l.space
