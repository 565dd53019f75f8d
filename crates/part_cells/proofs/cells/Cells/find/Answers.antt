use Rattle.std.proofs.Common.{◌≡◌, Some, refl, sym, ap, ◌∙◌, option_copied, subst}
use Rattle.slab.specs.Slab.{get}
use Rattle.actor_names.specs.declared.actor_key.ActorKey.{ActorKey}
use Rattle.part_model.specs.Cells.{cell_at}
use Rattle.part_model.proofs.KeyOrders.{same_key-true}
use Rattle.part_cells.specs.Slots.{slot_of, cells_in}
use Rattle.part_cells.proofs.Keeping.{found_at}
use Rattle.part_cells.proofs.cells.Cells.find.Goals as goal

pub returns : goal.returns
returns c =
    let S = get c.self.inside.slots in
    let ps = c.self.inside.places.entries in
    let cell = c.hashed.inside.cell in
    let e : S c.slot-guess.result ≡ Some cell = sym c.get.ensures ∙ ap option_copied c.in-Some.is ∙ ap (λ z. Some z) (sym c.hashed.view_is) in
    let found = found_at S ps (slot_of c.self.inside.calls) c.self.inside.count c.self.invariant c.self.inside.slots.slots c.slot-guess.result cell refl e in
    let key = same_key-true cell.key c.args.key.now (sym c.eq.ensures ∙ c.if-eq.true) in
    rw (← c.self.view_is) (
      subst (λ (k : ActorKey). cell_at (cells_in S ps) k ≡ Some cell) key found.here,
      found,
      c.hashed.invariant,
    )
