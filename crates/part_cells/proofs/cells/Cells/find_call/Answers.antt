use Rattle.std.proofs.Common.{◌≡◌, Some, None, refl, sym, ap, ◌∙◌, option_copied}
use Rattle.slab.specs.Slab.{get}
use Rattle.part_cells.specs.Slots.{slot_of}
use Rattle.part_cells.proofs.Keeping.{find_call_by, found_at}
use Rattle.part_cells.proofs.cells.Cells.find_call.Goals as goal

pub returns-in_default : goal.returns-in_default
returns-in_default c =
    rw (← c.self.view_is) (find_call_by (get c.self.inside.slots) c.self.inside.places.entries (slot_of c.self.inside.calls) c.self.inside.count c.self.invariant c.args.call None (sym c.in_default.is ∙ c.slot.ensures))

pub returns-in_default-get : goal.returns-in_default-get
returns-in_default-get c =
    rw (← c.self.view_is) (find_call_by (get c.self.inside.slots) c.self.inside.places.entries (slot_of c.self.inside.calls) c.self.inside.count c.self.invariant c.args.call (Some c.in-Some.slot) (sym c.in-Some.is ∙ c.slot.ensures) ∙ sym c.get.ensures ∙ ap option_copied c.in_default-get.is)

pub returns : goal.returns
returns c =
    let e : get c.self.inside.slots c.in-Some.slot ≡ Some c.hashed.inside.cell = sym c.get.ensures ∙ ap option_copied c.in-Some-get.is ∙ ap (λ z. Some z) (sym c.hashed.view_is) in
    rw (← c.self.view_is) (
      find_call_by (get c.self.inside.slots) c.self.inside.places.entries (slot_of c.self.inside.calls) c.self.inside.count c.self.invariant c.args.call (Some c.in-Some.slot) (sym c.in-Some.is ∙ c.slot.ensures) ∙ e,
      found_at (get c.self.inside.slots) c.self.inside.places.entries (slot_of c.self.inside.calls) c.self.inside.count c.self.invariant c.self.inside.slots.slots c.in-Some.slot c.hashed.inside.cell refl e,
      c.hashed.invariant,
    )
