use Rattle.call_book.proofs.Placed.{cut_call}
use Rattle.call_book.proofs.rows.Rows.get.Goals as goal

pub get-requires : goal.get-requires
get-requires c = cut_call c.args.lane.now c.args.number c.self.inside.tree c.self.invariant.order
