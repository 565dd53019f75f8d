use Rattle.std.proofs.Common.{◌≡◌, ℕ, [], ◌∷◌, sym, ap, ◌∙◌, option_copied}
use Rattle.slab.specs.Slab.{get}
use Rattle.actor_names.specs.declared.actor_key.ActorKey.{ActorKey}
use Rattle.part_cells.specs.Slots.{cells_in, first_where}
use Rattle.part_cells.proofs.SlotPasses.{first-none, first-some}
use Rattle.part_cells.proofs.passes.first_in.Goals as goal

pub loop-slot-preserved : goal.loop-slot-preserved
loop-slot-preserved g c =
    let at = get c.args.slots.now in
    let test = g.T.CellTest.holds c.args.test.now in
    let p : ActorKey × ℕ = (c.in-Some.field-0-0.now, c.in-Some.slot.now) in
    let rest : c.loop-slot.slot-iterator ≡ p ∷ c.next.new.self = c.in-Some.ensures.steps in
    c.loop-slot.invariant ∙ ap (λ ps. first_where test (cells_in at ps)) rest ∙ first-none test (at p.1) (cells_in at c.next.new.self) (sym c.held_at.ensures.first ∙ ap option_copied c.in_default.is)

pub returns-in-Some-held_at : goal.returns-in-Some-held_at
returns-in-Some-held_at g c =
    let at = get c.args.slots.now in
    let test = g.T.CellTest.holds c.args.test.now in
    let p : ActorKey × ℕ = (c.in-Some.field-0-0.now, c.in-Some.slot.now) in
    let rest : c.loop-slot.slot-iterator ≡ p ∷ c.next.new.self = c.in-Some.ensures.steps in (
      c.loop-slot.invariant ∙ ap (λ ps. first_where test (cells_in at ps)) rest ∙ first-some test (at p.1) (cells_in at c.next.new.self) c.in-Some-held_at.cell.now (sym c.held_at.ensures.first ∙ ap option_copied c.in-Some-held_at.is),
      c.in-Some-held_at.ensures.there,
    )

pub returns : goal.returns
returns g c =
    let at = get c.args.slots.now in
    let test = g.T.CellTest.holds c.args.test.now in
    let none : c.loop-slot.slot-iterator ≡ [] = c.in-None.ensures.steps.0 in
    c.loop-slot.invariant ∙ ap (λ ps. first_where test (cells_in at ps)) none
