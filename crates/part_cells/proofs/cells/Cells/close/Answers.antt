use Rattle.std.proofs.Common.{◌≡◌, [], true, Some, refl, sym, ap, ◌∙◌}
use Rattle.std.specs.Option.{option_copied_mut}
use Rattle.slab.specs.Slab.{get}
use Rattle.part_model.specs.declared.actor_cell.ActorCell.{ActorCell}
use Rattle.part_cells.specs.Slots.{slot_of, IsSettled}
use Rattle.part_cells.proofs.Writes.{write_keeps, write_with_calls}
use Rattle.part_cells.proofs.cells.Cells.close.Goals as goal

closing_settled : (c : ActorCell) → IsSettled c → c.inner.turns ≡ [] → IsSettled (record c { closing = true })
closing_settled c s free = record { kept = s.kept; awake = λ _. free }

pub invariant_of-self-2 : goal.invariant_of-self-2
invariant_of-self-2 c =
    let cell = c.hashed.inside.cell in
    let x : ActorCell = record cell { closing = true } in
    let e : get c.self.inside.slots c.args.slot ≡ Some cell = sym c.get_mut.ensures.value ∙ ap (λ o. option_copied_mut o) c.in-Some.is ∙ ap (λ z. Some z) (sym c.hashed.view_is) in
    let k = c.self.invariant in
    let free = rw e at (rw (← c.self.view_is) at c.requires) in
    write_with_calls c.self.inside.slots c.self.inside.places.entries (slot_of c.self.inside.calls) c.self.inside.count k c.args.slot cell e x refl (closing_settled cell (k.settled c.args.slot cell e) free) (record { times = λ n. refl; as_many = refl })

pub returns : goal.returns
returns c =
    let cell = c.hashed.inside.cell in
    let x : ActorCell = record cell { closing = true } in
    let e : get c.self.inside.slots c.args.slot ≡ Some cell = sym c.get_mut.ensures.value ∙ ap (λ o. option_copied_mut o) c.in-Some.is ∙ ap (λ z. Some z) (sym c.hashed.view_is) in
    let k = c.self.invariant in
    let free = rw e at (rw (← c.self.view_is) at c.requires) in
    rw (← c.self.view_is, e) (write_keeps c.self.inside.slots c.self.inside.places.entries (slot_of c.self.inside.calls) c.self.inside.count k c.args.slot cell e x refl (closing_settled cell (k.settled c.args.slot cell e) free))
