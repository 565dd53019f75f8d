use Rattle.std.proofs.Common.{◌≡◌, ℕ, max, Some, refl, sym, ap, ◌∙◌}
use Rattle.std.specs.Option.{option_copied_mut}
use Rattle.slab.specs.Slab.{get}
use Rattle.turn_core.specs.Cell.{without_hold}
use Rattle.turn_core.proofs.Presence.{KeepsCalls}
use Rattle.part_model.specs.declared.actor_cell.ActorCell.{ActorCell}
use Rattle.part_cells.specs.Slots.{slot_of, IsSettled}
use Rattle.part_cells.proofs.Writes.{write_keeps, write_with_calls}
use Rattle.part_cells.proofs.cells.Cells.release.Goals as goal

released_settled : (c : ActorCell) (last : ℕ) → IsSettled c → IsSettled (record c { inner = without_hold c.inner; last = last })
released_settled c last s = record { kept = s.kept; awake = s.awake }

released_keeps : (c : ActorCell) → KeepsCalls c.inner (without_hold c.inner)
released_keeps c = record { times = λ n. refl; as_many = refl }

pub invariant_of-self-2 : goal.invariant_of-self-2
invariant_of-self-2 c =
    let cell = c.hashed.inside.cell in
    let x : ActorCell = record cell { inner = without_hold cell.inner; last = c.max-hashed-inside.result } in
    let e : get c.self.inside.slots c.args.slot ≡ Some cell = sym c.get_mut.ensures.value ∙ ap (λ o. option_copied_mut o) c.in-Some.is ∙ ap (λ z. Some z) (sym c.hashed.view_is) in
    let k = c.self.invariant in
    rw c.release-released.ensures.cell (write_with_calls c.self.inside.slots c.self.inside.places.entries (slot_of c.self.inside.calls) c.self.inside.count k c.args.slot cell e x refl (released_settled cell c.max-hashed-inside.result (k.settled c.args.slot cell e)) (released_keeps cell))

pub returns : goal.returns
returns c =
    let cell = c.hashed.inside.cell in
    let x : ActorCell = record cell { inner = without_hold cell.inner; last = max cell.last c.args.now } in
    let e : get c.self.inside.slots c.args.slot ≡ Some cell = sym c.get_mut.ensures.value ∙ ap (λ o. option_copied_mut o) c.in-Some.is ∙ ap (λ z. Some z) (sym c.hashed.view_is) in
    let k = c.self.invariant in
    rw (← c.self.view_is, e, c.release-released.ensures.cell, c.max-hashed-inside.ensures) (write_keeps c.self.inside.slots c.self.inside.places.entries (slot_of c.self.inside.calls) c.self.inside.count k c.args.slot cell e x refl (released_settled cell (max cell.last c.args.now) (k.settled c.args.slot cell e)))
