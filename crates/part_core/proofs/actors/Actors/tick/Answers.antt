use Rattle.std.proofs.Common.{◌++◌, ℕ, List, ap, ◌∙◌, arith, vec_capacity}
use Rattle.part_cells.specs.Slots.{each_list, late_calls}
use Rattle.part_core.specs.Actors.{no_actors, state_of}
use Rattle.part_model.specs.Part.{tick_cell, ring_owner}
use Rattle.part_core.proofs.EachKept.{is_late, each-cells, each-ended, each-first, tick-cell, tick-ended, tick-number, kept_each, ticking_keeps}
use Rattle.part_core.proofs.actors.Actors.tick.Goals as goal

pub invariant_of-self : goal.invariant_of-self
invariant_of-self c =
    let k = c.self.invariant in
    let p = state_of c.args.standing.now no_actors in
    let cells = c.self.inside.cells.cells in
    let h = c.drain.ensures.cells ∙ each-cells (tick_cell ring_owner p c.args.now) _ (tick-cell p c.args.now) cells in
    rw h (kept_each c.self.inside.drawn (vec_capacity c.self.inside.recent) _ (tick_cell ring_owner p c.args.now) cells k (ticking_keeps c.self.inside.drawn c.args.now p)
    (let b = c.drain.ensures.room in let d = c.clear.ensures.capacity in omega arith))

pub returns-clause-cells : goal.returns-clause-cells
returns-clause-cells c =
    let p = state_of c.args.standing.now no_actors in
    rw (← c.self.view_is) (c.drain.ensures.cells ∙ each-cells (tick_cell ring_owner p c.args.now) _ (tick-cell p c.args.now) c.self.inside.cells.cells)

pub returns-clause-recent : goal.returns-clause-recent
returns-clause-recent c =
    let p = state_of c.args.standing.now no_actors in
    let cells = c.self.inside.cells.cells in
    rw (← c.self.view_is) (c.drain.ensures.ended ∙ ap (λ (l : List ℕ). l ++ each_list (late_calls (is_late p c.args.now)) cells) c.clear.ensures.items ∙ each-ended (tick_cell ring_owner p c.args.now) _ (tick-ended p c.args.now) cells)

pub returns-clause-ended : goal.returns-clause-ended
returns-clause-ended c =
    let p = state_of c.args.standing.now no_actors in
    rw (← c.self.view_is) (c.drain.ensures.number ∙ each-first (tick_cell ring_owner p c.args.now) _ (tick-number p c.args.now) c.self.inside.cells.cells)
