use Rattle.std.proofs.Common.{◌≡◌, Some, None, refl, sym, ap, ◌∙◌, option_copied}
use Rattle.slab.specs.Slab.{get}
use Rattle.part_cells.specs.Slots.{slot_of}
use Rattle.part_cells.proofs.Keeping.{find_by, found_at}
use Rattle.part_cells.proofs.cells.Cells.find_placed.Goals as goal

pub returns-in_default : goal.returns-in_default
returns-in_default c =
    rw (← c.self.view_is) (find_by (get c.self.inside.slots) c.self.inside.places.entries (slot_of c.self.inside.calls) c.self.inside.count c.self.invariant c.args.key.now None (sym c.get.ensures.value ∙ ap option_copied c.in_default.is))

pub returns-in_default-get : goal.returns-in_default-get
returns-in_default-get c =
    rw (← c.self.view_is) (find_by (get c.self.inside.slots) c.self.inside.places.entries (slot_of c.self.inside.calls) c.self.inside.count c.self.invariant c.args.key.now (Some c.in-Some.slot.now) (sym c.get.ensures.value ∙ ap option_copied c.in-Some.is) ∙ sym c.get-2.ensures ∙ ap option_copied c.in_default-get.is)

pub returns : goal.returns
returns c =
    let e : get c.self.inside.slots c.in-Some.slot.now ≡ Some c.hashed.inside.cell = sym c.get-2.ensures ∙ ap option_copied c.in-Some-get.is ∙ ap (λ z. Some z) (sym c.hashed.view_is) in
    rw (← c.self.view_is) (
      find_by (get c.self.inside.slots) c.self.inside.places.entries (slot_of c.self.inside.calls) c.self.inside.count c.self.invariant c.args.key.now (Some c.in-Some.slot.now) (sym c.get.ensures.value ∙ ap option_copied c.in-Some.is) ∙ e,
      found_at (get c.self.inside.slots) c.self.inside.places.entries (slot_of c.self.inside.calls) c.self.inside.count c.self.invariant c.self.inside.slots.slots c.in-Some.slot.now c.hashed.inside.cell refl e,
      c.hashed.invariant,
    )
