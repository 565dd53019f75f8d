use Rattle.std.proofs.Common.{◌≡◌, ℕ, ◌+◌, [], ◌∷◌, ◌++◌, List, length, refl, ap, subst, arith, length-append}
use Rattle.slab.specs.Slab.{get}
use Rattle.actor_names.specs.declared.actor_key.ActorKey.{ActorKey}
use Rattle.part_model.specs.Cells.{calls_in, total_calls}
use Rattle.part_cells.specs.Slots.{slot_of, cells_in, list_at, late_cell, late_calls, late_number}
use Rattle.part_cells.proofs.SlotPasses.{IsInPass, pass_begins, pass_goes, pass_ends, stays_left, total-found, list_short, late_calls-short}
use Rattle.part_cells.proofs.draining.drain_all.Goals as goal

pub loop-slot-init : goal.loop-slot-init
loop-slot-init g c =
    let same : c.into_iter-slot-iterator.result ≡ c.args.places.now.entries = c.into_iter-slot-iterator.ensures.into_iter_gives.0 in
    rw same (
      pass_begins (late_cell (g.T.CellTest.holds c.args.late.now) c.args.now) (late_calls (g.T.CellTest.holds c.args.late.now)) (late_number (g.T.CellTest.holds c.args.late.now)) c.args.places.now.entries (cells_in (get c.args.slots.now) c.args.places.now.entries) c.args.ended.now.items (get c.args.slots.now) refl,
      c.requires.kept,
      c.requires.room,
      omega arith,
      omega arith,
    )

pub drain_at-over-requires-clause-room : goal.drain_at-over-requires-clause-room
drain_at-over-requires-clause-room g c =
    let at = get c.loop-slot.slots in
    let p : ActorKey × ℕ = (c.in-Some.field-0-0.now, c.in-Some.slot.now) in
    let rest : c.loop-slot.slot-iterator ≡ p ∷ c.next.new.self = c.in-Some.ensures.steps in
    let t = ap (λ ps. total_calls (cells_in at ps)) rest in
    let f = total-found calls_in (at p.1) (cells_in at c.next.new.self) in
    let m = c.loop-slot.invariant.2 in
    omega arith

pub overflow_add-over : goal.overflow_add-over
overflow_add-over g c =
    let p : ActorKey × ℕ = (c.in-Some.field-0-0.now, c.in-Some.slot.now) in
    let rest : c.loop-slot.slot-iterator ≡ p ∷ c.next.new.self = c.in-Some.ensures.steps in
    let l = ap (λ ps. length ps) rest in
    let m = c.loop-slot.invariant.4 in
    let few = c.drain_at-over.ensures.few in
    let most = c.requires.few in
    omega arith

pub loop-slot-preserved : goal.loop-slot-preserved
loop-slot-preserved g c =
    let places = c.args.places.now.entries in
    let cells = cells_in (get c.args.slots.now) places in
    let before = c.args.ended.now.items in
    let at = get c.loop-slot.slots in
    let p : ActorKey × ℕ = (c.in-Some.field-0-0.now, c.in-Some.slot.now) in
    let rest : c.loop-slot.slot-iterator ≡ p ∷ c.next.new.self = c.in-Some.ensures.steps in
    let s : IsInPass (late_cell (g.T.CellTest.holds c.args.late.now) c.args.now) (late_calls (g.T.CellTest.holds c.args.late.now)) (late_number (g.T.CellTest.holds c.args.late.now)) places (p ∷ c.next.new.self) cells at before c.loop-slot.ended.items c.loop-slot.over =
    subst (λ left. IsInPass (late_cell (g.T.CellTest.holds c.args.late.now) c.args.now) (late_calls (g.T.CellTest.holds c.args.late.now)) (late_number (g.T.CellTest.holds c.args.late.now)) places left cells at before c.loop-slot.ended.items c.loop-slot.over) rest (c.loop-slot.invariant.0) in
    let kept = c.loop-slot.invariant.1 in
    let v = c.drain_at-over.ensures.visited in
    let t = ap (λ ps. total_calls (cells_in at ps)) rest in
    let f = total-found calls_in (at p.1) (cells_in at c.next.new.self) in
    let same = ap total_calls (stays_left (late_cell (g.T.CellTest.holds c.args.late.now) c.args.now) (late_calls (g.T.CellTest.holds c.args.late.now)) (late_number (g.T.CellTest.holds c.args.late.now)) places cells before p c.next.new.self at c.loop-slot.ended.items c.loop-slot.over s (slot_of c.loop-slot.calls) (c.loop-slot.count) kept (get c.drain_at-over.new.slots) v.others) in
    let m = c.loop-slot.invariant.2 in
    let q = ap (λ (l : List ℕ). length l) v.listed in
    let n : length (c.loop-slot.ended.items ++ list_at (late_calls (g.T.CellTest.holds c.args.late.now)) (at p.1)) ≡ length c.loop-slot.ended.items + length (list_at (late_calls (g.T.CellTest.holds c.args.late.now)) (at p.1)) = simp length-append in
    let short = list_short (late_calls (g.T.CellTest.holds c.args.late.now)) (late_calls-short (g.T.CellTest.holds c.args.late.now)) (at p.1) in
    let room = c.drain_at-over.ensures.room in
    let wide = c.loop-slot.invariant.3 in
    let l = ap (λ ps. length ps) rest in
    let bound = c.loop-slot.invariant.4 in
    let few = c.drain_at-over.ensures.few in (
      pass_goes (late_cell (g.T.CellTest.holds c.args.late.now) c.args.now) (late_calls (g.T.CellTest.holds c.args.late.now)) (late_number (g.T.CellTest.holds c.args.late.now)) places cells before p c.next.new.self at c.loop-slot.ended.items c.loop-slot.over s (slot_of c.loop-slot.calls) (c.loop-slot.count) kept (get c.drain_at-over.new.slots) c.drain_at-over.new.ended.items c.drain_at-over.result v,
      c.drain_at-over.ensures.kept,
      omega arith,
      omega arith,
      omega arith,
    )

pub returns-clause-cells : goal.returns-clause-cells
returns-clause-cells g c =
    let places = c.args.places.now.entries in
    let cells = cells_in (get c.args.slots.now) places in
    let before = c.args.ended.now.items in
    let at = get c.loop-slot.slots in
    let none : c.loop-slot.slot-iterator ≡ [] = c.in-None.ensures.steps.0 in
    let s : IsInPass (late_cell (g.T.CellTest.holds c.args.late.now) c.args.now) (late_calls (g.T.CellTest.holds c.args.late.now)) (late_number (g.T.CellTest.holds c.args.late.now)) places [] cells at before c.loop-slot.ended.items c.loop-slot.over =
    subst (λ left. IsInPass (late_cell (g.T.CellTest.holds c.args.late.now) c.args.now) (late_calls (g.T.CellTest.holds c.args.late.now)) (late_number (g.T.CellTest.holds c.args.late.now)) places left cells at before c.loop-slot.ended.items c.loop-slot.over) none (c.loop-slot.invariant.0) in
    (pass_ends (late_cell (g.T.CellTest.holds c.args.late.now) c.args.now) (late_calls (g.T.CellTest.holds c.args.late.now)) (late_number (g.T.CellTest.holds c.args.late.now)) places cells before at c.loop-slot.ended.items c.loop-slot.over s).0

pub returns-clause-ended : goal.returns-clause-ended
returns-clause-ended g c =
    let places = c.args.places.now.entries in
    let cells = cells_in (get c.args.slots.now) places in
    let before = c.args.ended.now.items in
    let at = get c.loop-slot.slots in
    let none : c.loop-slot.slot-iterator ≡ [] = c.in-None.ensures.steps.0 in
    let s : IsInPass (late_cell (g.T.CellTest.holds c.args.late.now) c.args.now) (late_calls (g.T.CellTest.holds c.args.late.now)) (late_number (g.T.CellTest.holds c.args.late.now)) places [] cells at before c.loop-slot.ended.items c.loop-slot.over =
    subst (λ left. IsInPass (late_cell (g.T.CellTest.holds c.args.late.now) c.args.now) (late_calls (g.T.CellTest.holds c.args.late.now)) (late_number (g.T.CellTest.holds c.args.late.now)) places left cells at before c.loop-slot.ended.items c.loop-slot.over) none (c.loop-slot.invariant.0) in
    (pass_ends (late_cell (g.T.CellTest.holds c.args.late.now) c.args.now) (late_calls (g.T.CellTest.holds c.args.late.now)) (late_number (g.T.CellTest.holds c.args.late.now)) places cells before at c.loop-slot.ended.items c.loop-slot.over s).1.0

pub returns-clause-number : goal.returns-clause-number
returns-clause-number g c =
    let places = c.args.places.now.entries in
    let cells = cells_in (get c.args.slots.now) places in
    let before = c.args.ended.now.items in
    let at = get c.loop-slot.slots in
    let none : c.loop-slot.slot-iterator ≡ [] = c.in-None.ensures.steps.0 in
    let s : IsInPass (late_cell (g.T.CellTest.holds c.args.late.now) c.args.now) (late_calls (g.T.CellTest.holds c.args.late.now)) (late_number (g.T.CellTest.holds c.args.late.now)) places [] cells at before c.loop-slot.ended.items c.loop-slot.over =
    subst (λ left. IsInPass (late_cell (g.T.CellTest.holds c.args.late.now) c.args.now) (late_calls (g.T.CellTest.holds c.args.late.now)) (late_number (g.T.CellTest.holds c.args.late.now)) places left cells at before c.loop-slot.ended.items c.loop-slot.over) none (c.loop-slot.invariant.0) in
    (pass_ends (late_cell (g.T.CellTest.holds c.args.late.now) c.args.now) (late_calls (g.T.CellTest.holds c.args.late.now)) (late_number (g.T.CellTest.holds c.args.late.now)) places cells before at c.loop-slot.ended.items c.loop-slot.over s).1.1
