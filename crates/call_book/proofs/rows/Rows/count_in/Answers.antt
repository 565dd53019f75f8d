use Rattle.std.proofs.Common.{arith}
use Rattle.call_book.proofs.Placed.{run_lane}
use Rattle.call_book.proofs.rows.Rows.count_in.Goals as goal

pub count-requires-clause-run : goal.count-requires-clause-run
count-requires-clause-run c = run_lane c.args.lane.now c.self.inside.tree c.self.invariant.order

pub count-requires-clause-fits : goal.count-requires-clause-fits
count-requires-clause-fits c = let n = c.self.invariant.number in let l = c.self.invariant.limit in omega arith
