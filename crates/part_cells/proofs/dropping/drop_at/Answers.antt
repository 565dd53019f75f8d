use Rattle.std.proofs.Common.{◌≡◌, Some, None, refl, sym, ap, ◌∙◌}
use Rattle.std.specs.Option.{option_copied}
use Rattle.slab.specs.Slab.{get}
use Rattle.part_cells.proofs.dropping.drop_at.Goals as goal

pub returns-in_default-clause-slots : goal.returns-in_default-clause-slots
returns-in_default-clause-slots c = record { changed = sym c.get.ensures ∙ ap option_copied c.in_default.is; others = λ m a. refl }

pub returns-in_default-clause-places : goal.returns-in_default-clause-places
returns-in_default-clause-places c =
    let none : get c.args.slots.now c.args.slot ≡ None = sym c.get.ensures ∙ ap option_copied c.in_default.is in
    rw none tt

pub returns-clause-places : goal.returns-clause-places
returns-clause-places c =
    let e : get c.args.slots.now c.args.slot ≡ Some c.hashed.inside.cell = sym c.get.ensures ∙ ap option_copied c.in-Some.is ∙ ap (λ z. Some z) (sym c.hashed.view_is) in
    rw e c.remove-place.ensures.entries
