use Rattle.clock_turns.proofs.Takings.{cell_closed}
use Rattle.clock_turns.proofs.cell.close_cell.Goals as goal

pub returns-clause-closing : goal.returns-clause-closing
returns-clause-closing g c =
    let desk = c.args.desk.now in
    let x = c.tell_app-got.ensures in
    cell_closed desk.links.app_at c.args.part c.args.key c.copied-copy.result desk.seats c.step_book-dropped.new.seats c.step_part-closed.new.seats c.step_book-dropped.result x.0 c.tell_app-got.result c.step_part-closed.result _ _ _ _ c.is_fault.result c.closing_end.result
    c.copied-copy.ensures c.step_book-dropped.ensures.entry c.step_book-dropped.ensures.spent x.1 x.2 c.step_part-closed.ensures.entry c.step_part-closed.ensures.spent c.is_fault.ensures c.closing_end.ensures
