use Rattle.std.proofs.Common.{◌≡◌, ℕ, Option, Some, None, refl, Bor}
use Rattle.std.specs.Option.{MatchOption}
use Rattle.slab.specs.Slab.{get}
use Rattle.part_model.specs.declared.actor_cell.ActorCell.{ActorCell}
use Rattle.part_cells.specs.Slots.{CellsView, IsFoundAt, slot_of}
use Rattle.part_cells.proofs.Keeping.{found_at}
use Rattle.part_cells.proofs.cells.Cells.first.Goals as goal

-- the cell of a slot is found there
with_place : (found : Option (ℕ × Bor ActorCell)) (first : Option ActorCell) (at : ℕ → Option ActorCell) (v : CellsView) → ((s : ℕ) (c : ActorCell) → at s ≡ Some c → IsFoundAt v s c)
    → MatchOption found (first ≡ None) (λ f. (first ≡ Some f.1.now) × (at f.0 ≡ Some f.1.now)) → MatchOption found (first ≡ None) (λ f. (first ≡ Some f.1.now) × IsFoundAt v f.0 f.1.now)
with_place None first at v h m = m
with_place (Some f) first at v h m = (m.0, h f.0 f.1.now m.1)

pub returns : goal.returns
returns g c =
    let S = c.self.inside.slots in
    rw (← c.self.view_is) (with_place c.first_in.result _ (get S) _ (λ s d e. found_at (get S) c.self.inside.places.entries (slot_of c.self.inside.calls) c.self.inside.count c.self.invariant S.slots s d refl e) c.first_in.ensures)
