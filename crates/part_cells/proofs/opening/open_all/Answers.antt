use Rattle.std.proofs.Common.{◌≡◌, ℕ, ◌+◌, [], ◌∷◌, ◌++◌, List, length, refl, ap, subst, arith, length-append}
use Rattle.slab.specs.Slab.{get}
use Rattle.actor_names.specs.declared.actor_key.ActorKey.{ActorKey}
use Rattle.part_model.specs.Cells.{calls_in, total_calls}
use Rattle.part_cells.specs.Slots.{slot_of, cells_in, list_at, opened_cell, opened_calls, opened_moved}
use Rattle.part_cells.proofs.SlotPasses.{IsInPass, pass_begins, pass_goes, pass_ends, stays_left, total-found, list_short, opened_calls-short}
use Rattle.part_cells.proofs.opening.open_all.Goals as goal

pub loop-slot-init : goal.loop-slot-init
loop-slot-init g c =
    let same : c.into_iter-slot-iterator.result ≡ c.args.places.now.entries = c.into_iter-slot-iterator.ensures.into_iter_gives.0 in
    rw same (
      pass_begins (opened_cell (g.T.CellTest.holds c.args.own.now)) (opened_calls (g.T.CellTest.holds c.args.own.now)) (opened_moved (g.T.CellTest.holds c.args.own.now)) c.args.places.now.entries (cells_in (get c.args.slots.now) c.args.places.now.entries) c.args.begun.now.items (get c.args.slots.now) refl,
      c.requires.kept,
      c.requires.room,
      omega arith,
      omega arith,
    )

pub open_at-moved-requires-clause-room : goal.open_at-moved-requires-clause-room
open_at-moved-requires-clause-room g c =
    let at = get c.loop-slot.slots in
    let p : ActorKey × ℕ = (c.in-Some.field-0-0.now, c.in-Some.slot.now) in
    let rest : c.loop-slot.slot-iterator ≡ p ∷ c.next.new.self = c.in-Some.ensures.steps in
    let t = ap (λ ps. total_calls (cells_in at ps)) rest in
    let f = total-found calls_in (at p.1) (cells_in at c.next.new.self) in
    let m = c.loop-slot.invariant.2 in
    omega arith

pub overflow_add-moved : goal.overflow_add-moved
overflow_add-moved g c =
    let p : ActorKey × ℕ = (c.in-Some.field-0-0.now, c.in-Some.slot.now) in
    let rest : c.loop-slot.slot-iterator ≡ p ∷ c.next.new.self = c.in-Some.ensures.steps in
    let l = ap (λ ps. length ps) rest in
    let m = c.loop-slot.invariant.4 in
    let few = c.open_at-moved.ensures.few in
    let most = c.requires.few in
    omega arith

pub loop-slot-preserved : goal.loop-slot-preserved
loop-slot-preserved g c =
    let places = c.args.places.now.entries in
    let cells = cells_in (get c.args.slots.now) places in
    let before = c.args.begun.now.items in
    let at = get c.loop-slot.slots in
    let p : ActorKey × ℕ = (c.in-Some.field-0-0.now, c.in-Some.slot.now) in
    let rest : c.loop-slot.slot-iterator ≡ p ∷ c.next.new.self = c.in-Some.ensures.steps in
    let s : IsInPass (opened_cell (g.T.CellTest.holds c.args.own.now)) (opened_calls (g.T.CellTest.holds c.args.own.now)) (opened_moved (g.T.CellTest.holds c.args.own.now)) places (p ∷ c.next.new.self) cells at before c.loop-slot.begun.items c.loop-slot.moved =
    subst (λ left. IsInPass (opened_cell (g.T.CellTest.holds c.args.own.now)) (opened_calls (g.T.CellTest.holds c.args.own.now)) (opened_moved (g.T.CellTest.holds c.args.own.now)) places left cells at before c.loop-slot.begun.items c.loop-slot.moved) rest (c.loop-slot.invariant.0) in
    let kept = c.loop-slot.invariant.1 in
    let v = c.open_at-moved.ensures.visited in
    let t = ap (λ ps. total_calls (cells_in at ps)) rest in
    let f = total-found calls_in (at p.1) (cells_in at c.next.new.self) in
    let same = ap total_calls (stays_left (opened_cell (g.T.CellTest.holds c.args.own.now)) (opened_calls (g.T.CellTest.holds c.args.own.now)) (opened_moved (g.T.CellTest.holds c.args.own.now)) places cells before p c.next.new.self at c.loop-slot.begun.items c.loop-slot.moved s (slot_of c.args.calls.now) (c.args.count.now) kept (get c.open_at-moved.new.slots) v.others) in
    let m = c.loop-slot.invariant.2 in
    let q = ap (λ (l : List ℕ). length l) v.listed in
    let n : length (c.loop-slot.begun.items ++ list_at (opened_calls (g.T.CellTest.holds c.args.own.now)) (at p.1)) ≡ length c.loop-slot.begun.items + length (list_at (opened_calls (g.T.CellTest.holds c.args.own.now)) (at p.1)) = simp length-append in
    let short = list_short (opened_calls (g.T.CellTest.holds c.args.own.now)) (opened_calls-short (g.T.CellTest.holds c.args.own.now)) (at p.1) in
    let room = c.open_at-moved.ensures.room in
    let wide = c.loop-slot.invariant.3 in
    let l = ap (λ ps. length ps) rest in
    let bound = c.loop-slot.invariant.4 in
    let few = c.open_at-moved.ensures.few in (
      pass_goes (opened_cell (g.T.CellTest.holds c.args.own.now)) (opened_calls (g.T.CellTest.holds c.args.own.now)) (opened_moved (g.T.CellTest.holds c.args.own.now)) places cells before p c.next.new.self at c.loop-slot.begun.items c.loop-slot.moved s (slot_of c.args.calls.now) (c.args.count.now) kept (get c.open_at-moved.new.slots) c.open_at-moved.new.begun.items c.open_at-moved.result v,
      c.open_at-moved.ensures.kept,
      omega arith,
      omega arith,
      omega arith,
    )

pub returns-clause-cells : goal.returns-clause-cells
returns-clause-cells g c =
    let places = c.args.places.now.entries in
    let cells = cells_in (get c.args.slots.now) places in
    let before = c.args.begun.now.items in
    let at = get c.loop-slot.slots in
    let none : c.loop-slot.slot-iterator ≡ [] = c.in-None.ensures.steps.0 in
    let s : IsInPass (opened_cell (g.T.CellTest.holds c.args.own.now)) (opened_calls (g.T.CellTest.holds c.args.own.now)) (opened_moved (g.T.CellTest.holds c.args.own.now)) places [] cells at before c.loop-slot.begun.items c.loop-slot.moved =
    subst (λ left. IsInPass (opened_cell (g.T.CellTest.holds c.args.own.now)) (opened_calls (g.T.CellTest.holds c.args.own.now)) (opened_moved (g.T.CellTest.holds c.args.own.now)) places left cells at before c.loop-slot.begun.items c.loop-slot.moved) none (c.loop-slot.invariant.0) in
    (pass_ends (opened_cell (g.T.CellTest.holds c.args.own.now)) (opened_calls (g.T.CellTest.holds c.args.own.now)) (opened_moved (g.T.CellTest.holds c.args.own.now)) places cells before at c.loop-slot.begun.items c.loop-slot.moved s).0

pub returns-clause-begun : goal.returns-clause-begun
returns-clause-begun g c =
    let places = c.args.places.now.entries in
    let cells = cells_in (get c.args.slots.now) places in
    let before = c.args.begun.now.items in
    let at = get c.loop-slot.slots in
    let none : c.loop-slot.slot-iterator ≡ [] = c.in-None.ensures.steps.0 in
    let s : IsInPass (opened_cell (g.T.CellTest.holds c.args.own.now)) (opened_calls (g.T.CellTest.holds c.args.own.now)) (opened_moved (g.T.CellTest.holds c.args.own.now)) places [] cells at before c.loop-slot.begun.items c.loop-slot.moved =
    subst (λ left. IsInPass (opened_cell (g.T.CellTest.holds c.args.own.now)) (opened_calls (g.T.CellTest.holds c.args.own.now)) (opened_moved (g.T.CellTest.holds c.args.own.now)) places left cells at before c.loop-slot.begun.items c.loop-slot.moved) none (c.loop-slot.invariant.0) in
    (pass_ends (opened_cell (g.T.CellTest.holds c.args.own.now)) (opened_calls (g.T.CellTest.holds c.args.own.now)) (opened_moved (g.T.CellTest.holds c.args.own.now)) places cells before at c.loop-slot.begun.items c.loop-slot.moved s).1.0

pub returns-clause-moved : goal.returns-clause-moved
returns-clause-moved g c =
    let places = c.args.places.now.entries in
    let cells = cells_in (get c.args.slots.now) places in
    let before = c.args.begun.now.items in
    let at = get c.loop-slot.slots in
    let none : c.loop-slot.slot-iterator ≡ [] = c.in-None.ensures.steps.0 in
    let s : IsInPass (opened_cell (g.T.CellTest.holds c.args.own.now)) (opened_calls (g.T.CellTest.holds c.args.own.now)) (opened_moved (g.T.CellTest.holds c.args.own.now)) places [] cells at before c.loop-slot.begun.items c.loop-slot.moved =
    subst (λ left. IsInPass (opened_cell (g.T.CellTest.holds c.args.own.now)) (opened_calls (g.T.CellTest.holds c.args.own.now)) (opened_moved (g.T.CellTest.holds c.args.own.now)) places left cells at before c.loop-slot.begun.items c.loop-slot.moved) none (c.loop-slot.invariant.0) in
    (pass_ends (opened_cell (g.T.CellTest.holds c.args.own.now)) (opened_calls (g.T.CellTest.holds c.args.own.now)) (opened_moved (g.T.CellTest.holds c.args.own.now)) places cells before at c.loop-slot.begun.items c.loop-slot.moved s).1.1
