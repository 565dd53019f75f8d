use Rattle.std.proofs.Common.{◌≡◌, ℕ, [], ◌∷◌, length, ap, arith}
use Rattle.slab.specs.Slab.{get}
use Rattle.actor_names.specs.declared.actor_key.ActorKey.{ActorKey}
use Rattle.part_model.specs.Cells.{total}
use Rattle.part_cells.specs.Slots.{cells_in, one_where}
use Rattle.part_cells.proofs.SlotPasses.{total-found}
use Rattle.part_cells.proofs.passes.count_in.Goals as goal

pub overflow_add-count : goal.overflow_add-count
overflow_add-count g c =
    let p : ActorKey × ℕ = (c.in-Some.field-0-0.now, c.in-Some.slot.now) in
    let rest : c.loop-slot.slot-iterator ≡ p ∷ c.next.new.self = c.in-Some.ensures.steps in
    let l = ap (λ ps. length ps) rest in
    let m = c.loop-slot.invariant.1 in
    let f = c.count_at-count.ensures.few in
    omega arith

pub loop-slot-preserved : goal.loop-slot-preserved
loop-slot-preserved g c =
    let at = get c.args.slots.now in
    let one = one_where (g.T.CellTest.holds c.args.test.now) in
    let p : ActorKey × ℕ = (c.in-Some.field-0-0.now, c.in-Some.slot.now) in
    let rest : c.loop-slot.slot-iterator ≡ p ∷ c.next.new.self = c.in-Some.ensures.steps in
    let l = ap (λ ps. length ps) rest in
    let t = ap (λ ps. total one (cells_in at ps)) rest in
    let f = total-found one (at p.1) (cells_in at c.next.new.self) in
    let n = c.count_at-count.ensures.count in
    let few = c.count_at-count.ensures.few in
    let i = c.loop-slot.invariant.0 in
    let m = c.loop-slot.invariant.1 in
    (omega arith, omega arith)

pub returns : goal.returns
returns g c =
    let at = get c.args.slots.now in
    let one = one_where (g.T.CellTest.holds c.args.test.now) in
    let none : c.loop-slot.slot-iterator ≡ [] = c.in-None.ensures.steps.0 in
    let t = ap (λ ps. total one (cells_in at ps)) none in
    let i = c.loop-slot.invariant.0 in
    omega arith
