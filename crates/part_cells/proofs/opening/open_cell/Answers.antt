use Rattle.std.proofs.Common.{arith}
use Rattle.part_cells.proofs.SlotPasses.{unmoved_short}
use Rattle.part_cells.proofs.opening.open_cell.Goals as goal

pub returns-then-not-holds-clause-few : goal.returns-then-not-holds-clause-few
returns-then-not-holds-clause-few g c =
    let s = unmoved_short c.args.cell.now.inner.queue in
    let w = c.waiting.ensures.within in
    let n = c.waiting.ensures.count in
    let a = c.move_waiting.ensures.answer in
    omega arith
