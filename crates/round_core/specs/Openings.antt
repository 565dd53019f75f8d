-- Before the first round a placement is the opening one. Own.
use Rattle.std.specs.Prelude.{◌≡◌, ◌≤◌}
use Rattle.round_core.specs.Room.{RoomState, new_room}

-- a state whose next version is 1 is the opening one: it has no members and knows no nodes
pub record IsNewOrUsed (s : RoomState) : Type 0 where
  pub used : 1 ≤ s.next_version
  pub unused : s.next_version ≡ 1 → s ≡ new_room
