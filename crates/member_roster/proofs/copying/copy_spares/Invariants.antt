use Rattle.std.proofs.Common.{◌≡◌, ◌≤◌, take}
use Rattle.std.specs.Vec.{vec_capacity}
use Rattle.member_roster.proofs.copying.copy_spares.Given as goal

abbrev pub invariant-loop-spare : goal.invariant-loop-spare
invariant-loop-spare l = record { items : l.items.items ≡ take l.spare-index l.spares; capacity : l.capacity ≤ vec_capacity l.items }
