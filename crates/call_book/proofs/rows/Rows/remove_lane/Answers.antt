use Rattle.call_book.proofs.Placed.{run_lane}
use Rattle.call_book.proofs.rows.Rows.remove_lane.Goals as goal

pub remove_all-requires : goal.remove_all-requires
remove_all-requires c = run_lane c.args.lane.now c.args.self.now c.in_order.ensures.order
