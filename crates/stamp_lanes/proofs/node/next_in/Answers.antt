use Rattle.stamp_lanes.proofs.LaneFacts.{cut_after_part}
use Rattle.stamp_lanes.proofs.node.next_in.Goals as goal

pub next-requires : goal.next-requires
next-requires c = cut_after_part c.args.after c.args.lanes.now c.requires
