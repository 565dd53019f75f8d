use Rattle.call_book.proofs.Placed.{run_call}
use Rattle.call_book.proofs.rows.Rows.remove.Goals as goal

pub remove_all-requires : goal.remove_all-requires
remove_all-requires c = run_call c.args.lane.now c.args.number c.args.self.now c.in_order.ensures.order
