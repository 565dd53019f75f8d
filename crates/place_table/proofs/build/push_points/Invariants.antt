use Rattle.std.proofs.Common.{◌≡◌, take, map, ◌++◌}
use Rattle.place_table.specs.Tables.{slot_at}
use Rattle.place_table.proofs.build.push_points.Given as goal

abbrev pub invariant-loop-place : goal.invariant-loop-place
invariant-loop-place l = l.slots.items ≡ l.fn.slots.items ++ map (slot_at l.host) (take l.place-index l.places)
