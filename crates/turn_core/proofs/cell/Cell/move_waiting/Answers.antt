use Rattle.turn_core.specs.Cell.{CellState}
use Rattle.turn_core.proofs.CellBounds.{moved_kept}
use Rattle.turn_core.proofs.cell.Cell.move_waiting.Goals as goal

pub invariant_of-self : goal.invariant_of-self
invariant_of-self c =
    let s : CellState = record { depth = c.self.inside.depth; turns = c.self.inside.turns.items; queue = c.self.inside.queue.items; holds = c.self.inside.holds } in
    (moved_kept s c.move_queue.new.queue.items c.self.invariant.0 c.move_queue.ensures.moved, c.self.invariant.1)
