use Rattle.std.specs.Prelude.{◌≡◌, ◌+◌, ◌≤◌, ◌∷◌, replicate, vec_capacity}
use Rattle.group_gate.specs.declared.view.Core.{Core}
use Rattle.group_gate.specs.declared.view.Held.TheVariants.{Machine, Nothing}
use Rattle.group_gate.specs.Kept.{IsReady}
use Rattle.group_gate.proofs.opening.first_slots.Given as goal

abbrev pub invariant-loop-filled : goal.invariant-loop-filled
invariant-loop-filled g l =
    ((c : Core g.row.M.Denot g.row.A.Denot g.row.R.Denot) × (l.slots.items ≡ Machine c ∷ replicate l.filled Nothing) × IsReady (l.places + 1) c × (c.machine ≡ l.fn.machine))
    × (l.places + 1 ≤ vec_capacity l.slots)
