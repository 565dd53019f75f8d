use Rattle.std.proofs.Common.{◌≡◌, ◌<◌, take, map, length, All}
use Rattle.place_table.specs.Hosts.{ring_points}
use Rattle.place_table.specs.Tables.{slot_point}
use Rattle.place_table.proofs.build.points_of.Given as goal

abbrev pub invariant-loop-i : goal.invariant-loop-i
invariant-loop-i l = (map (slot_point l.hosts) l.slots.items ≡ ring_points (take l.i l.hosts) l.kind) × All (λ s. s.host < length l.hosts) l.slots.items
