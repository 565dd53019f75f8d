use Rattle.std.proofs.Common.{◌++◌, ℕ, List, length, ap, ◌∙◌, arith, vec_capacity}
use Rattle.part_cells.specs.Slots.{each_list, opened_calls}
use Rattle.part_core.specs.Actors.{no_actors, state_of}
use Rattle.part_model.specs.Part.{open_cell, ring_owner}
use Rattle.part_core.proofs.EachKept.{is_mine, each-cells, each-begun, each-second, open-cell, open-begun, open-moved, length-begun, begun-few, kept_each, opening_keeps}
use Rattle.part_core.proofs.actors.Actors.open.Goals as goal

pub invariant_of-self : goal.invariant_of-self
invariant_of-self c =
    let k = c.self.invariant in
    let p = state_of c.args.standing.now no_actors in
    let cells = c.self.inside.cells.cells in
    let h = c.open-moved.ensures.cells ∙ each-cells (open_cell ring_owner p) _ (open-cell p) cells in
    rw h (kept_each c.self.inside.drawn (vec_capacity c.self.inside.recent) _ (open_cell ring_owner p) cells k (opening_keeps c.self.inside.drawn p)
    (let b = c.open-moved.ensures.room in let d = c.clear.ensures.capacity in omega arith))

pub returns-clause-cells : goal.returns-clause-cells
returns-clause-cells c =
    let p = state_of c.args.standing.now no_actors in
    rw (← c.self.view_is) (c.open-moved.ensures.cells ∙ each-cells (open_cell ring_owner p) _ (open-cell p) c.self.inside.cells.cells)

pub returns-clause-recent : goal.returns-clause-recent
returns-clause-recent c =
    let p = state_of c.args.standing.now no_actors in
    let cells = c.self.inside.cells.cells in
    rw (← c.self.view_is) (c.open-moved.ensures.begun ∙ ap (λ (l : List ℕ). l ++ each_list (opened_calls (is_mine p)) cells) c.clear.ensures.items ∙ each-begun (open_cell ring_owner p) _ (open-begun p) cells)

pub returns-clause-begun : goal.returns-clause-begun
returns-clause-begun c =
    let p = state_of c.args.standing.now no_actors in
    let cells = c.self.inside.cells.cells in
    let l = ap (λ (ns : List ℕ). length ns) (c.open-moved.ensures.begun ∙ ap (λ (ns : List ℕ). ns ++ each_list (opened_calls (is_mine p)) cells) c.clear.ensures.items) in
    let n = length-begun p cells in
    rw (← c.self.view_is) (omega arith)

pub returns-clause-moved : goal.returns-clause-moved
returns-clause-moved c =
    let p = state_of c.args.standing.now no_actors in
    rw (← c.self.view_is) (c.open-moved.ensures.moved ∙ each-second (open_cell ring_owner p) _ (open-moved p) c.self.inside.cells.cells)

pub overflow_cast-result : goal.overflow_cast-result
overflow_cast-result c =
    let k = c.self.invariant in
    let p = state_of c.args.standing.now no_actors in
    let cells = c.self.inside.cells.cells in
    let l = ap (λ (ns : List ℕ). length ns) (c.open-moved.ensures.begun ∙ ap (λ (ns : List ℕ). ns ++ each_list (opened_calls (is_mine p)) cells) c.clear.ensures.items) in
    let n = begun-few p cells in
    let few = k.few in
    let e = c.len.ensures in
    omega arith
