use Rattle.std.proofs.Common.{◌≡◌, [], arith}
use Rattle.turn_core.specs.Cell.{CellState}
use Rattle.turn_core.proofs.CellBounds.{begun_cell, begun_kept}
use Rattle.turn_core.proofs.cell.Cell.begin_next.Goals as goal

pub invariant_of-self : goal.invariant_of-self
invariant_of-self c =
    let s : CellState = record { depth = c.self.inside.depth; turns = c.self.inside.turns.items; queue = c.self.inside.queue.items; holds = c.self.inside.holds } in
    let free : c.self.inside.turns.items ≡ [] = rw (← c.self.view_is) at c.requires in
    (begun_kept s c.begin_first.new.turns.items c.begin_first.new.queue.items c.self.invariant.0 free c.begin_first.ensures.turns c.begin_first.ensures.queue, omega arith)

pub returns-clause-cell : goal.returns-clause-cell
returns-clause-cell c =
    let s : CellState = record { depth = c.self.inside.depth; turns = c.self.inside.turns.items; queue = c.self.inside.queue.items; holds = c.self.inside.holds } in
    rw (← c.self.view_is) (begun_cell s c.begin_first.new.turns.items c.begin_first.new.queue.items c.begin_first.ensures.turns c.begin_first.ensures.queue)
