use Rattle.std.proofs.Common.{◌≡◌, drop}
use Rattle.place_table.specs.Tables.{kept_slots}
use Rattle.place_table.proofs.slots.ring_slots.Given as goal

abbrev pub invariant-loop-ring : goal.invariant-loop-ring
invariant-loop-ring l = kept_slots l.kind l.rings ≡ kept_slots l.kind (drop l.ring-index l.rings)
