use Rattle.std.proofs.Common.{◌≡◌, ℕ, [], ◌∷◌, ap, arith}
use Rattle.slab.specs.Slab.{get}
use Rattle.actor_names.specs.declared.actor_key.ActorKey.{ActorKey}
use Rattle.part_cells.specs.Slots.{cells_in, least_of}
use Rattle.part_cells.proofs.SlotPasses.{least-most, least-found, lesser_le}
use Rattle.part_cells.proofs.passes.least_in.Goals as goal

pub loop-slot-init : goal.loop-slot-init
loop-slot-init g c =
    let same = c.into_iter-slot-iterator.ensures.into_iter_gives.0 in
    let t = ap (λ ps. least_of (g.N.CellNumber.number c.args.number.now) (cells_in (get c.args.slots.now) ps)) same in
    let m = least-most (g.N.CellNumber.number c.args.number.now) (cells_in (get c.args.slots.now) c.args.places.now.entries) in
    (omega arith, omega arith)

pub loop-slot-preserved : goal.loop-slot-preserved
loop-slot-preserved g c =
    let at = get c.args.slots.now in
    let f = g.N.CellNumber.number c.args.number.now in
    let p : ActorKey × ℕ = (c.in-Some.field-0-0.now, c.in-Some.slot.now) in
    let rest : c.loop-slot.slot-iterator ≡ p ∷ c.next.new.self = c.in-Some.ensures.steps in
    let t = ap (λ ps. least_of f (cells_in at ps)) rest in
    let l = least-found f (at p.1) (cells_in at c.next.new.self) c.loop-slot.least in
    let n = c.least_at-least.ensures in
    let i = c.loop-slot.invariant.0 in
    let r = c.loop-slot.invariant.1 in
    let less = lesser_le f (at p.1) c.loop-slot.least in
    (omega arith, omega arith)

pub returns : goal.returns
returns g c =
    let at = get c.args.slots.now in
    let f = g.N.CellNumber.number c.args.number.now in
    let none : c.loop-slot.slot-iterator ≡ [] = c.in-None.ensures.steps.0 in
    let t = ap (λ ps. least_of f (cells_in at ps)) none in
    let i = c.loop-slot.invariant.0 in
    let r = c.loop-slot.invariant.1 in
    omega arith
