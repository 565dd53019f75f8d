use Rattle.stamp_lanes.proofs.Rows.{rows-back}
use Rattle.stamp_lanes.proofs.law.restored_law.Goals as goal

pub returns : goal.returns
returns c = rows-back c.args.lanes.now.nodes c.in_order.ensures.order c.in_order.ensures.each
