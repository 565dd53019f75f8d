use Rattle.std.proofs.Common.{◌≡◌, Some, refl, sym, ap, ◌∙◌}
use Rattle.std.specs.Option.{option_copied_mut}
use Rattle.slab.specs.Slab.{get}
use Rattle.turn_core.specs.Cell.{with_hold}
use Rattle.turn_core.proofs.Presence.{KeepsCalls}
use Rattle.part_model.specs.declared.actor_cell.ActorCell.{ActorCell}
use Rattle.part_cells.specs.Slots.{slot_of, IsSettled}
use Rattle.part_cells.proofs.Writes.{write_keeps, write_with_calls}
use Rattle.part_cells.proofs.cells.Cells.hold.Goals as goal

held_settled : (c : ActorCell) → IsSettled c → IsSettled (record c { inner = with_hold c.inner })
held_settled c s = record { kept = s.kept; awake = s.awake }

held_keeps : (c : ActorCell) → KeepsCalls c.inner (with_hold c.inner)
held_keeps c = record { times = λ n. refl; as_many = refl }

pub hold-requires : goal.hold-requires
hold-requires c =
    let e : get c.self.inside.slots c.args.slot ≡ Some c.hashed.inside.cell = sym c.get_mut.ensures.value ∙ ap (λ o. option_copied_mut o) c.in-Some.is ∙ ap (λ z. Some z) (sym c.hashed.view_is) in
    rw e at (rw (← c.self.view_is) at c.requires)

pub invariant_of-self-2 : goal.invariant_of-self-2
invariant_of-self-2 c =
    let cell = c.hashed.inside.cell in
    let x : ActorCell = record cell { inner = with_hold cell.inner } in
    let e : get c.self.inside.slots c.args.slot ≡ Some cell = sym c.get_mut.ensures.value ∙ ap (λ o. option_copied_mut o) c.in-Some.is ∙ ap (λ z. Some z) (sym c.hashed.view_is) in
    let k = c.self.invariant in
    rw c.hold.ensures (write_with_calls c.self.inside.slots c.self.inside.places.entries (slot_of c.self.inside.calls) c.self.inside.count k c.args.slot cell e x refl (held_settled cell (k.settled c.args.slot cell e)) (held_keeps cell))

pub returns : goal.returns
returns c =
    let cell = c.hashed.inside.cell in
    let x : ActorCell = record cell { inner = with_hold cell.inner } in
    let e : get c.self.inside.slots c.args.slot ≡ Some cell = sym c.get_mut.ensures.value ∙ ap (λ o. option_copied_mut o) c.in-Some.is ∙ ap (λ z. Some z) (sym c.hashed.view_is) in
    let k = c.self.invariant in
    rw (← c.self.view_is, e, c.hold.ensures) (write_keeps c.self.inside.slots c.self.inside.places.entries (slot_of c.self.inside.calls) c.self.inside.count k c.args.slot cell e x refl (held_settled cell (k.settled c.args.slot cell e)))
