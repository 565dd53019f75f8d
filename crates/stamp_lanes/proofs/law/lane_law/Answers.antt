use Rattle.stamp_lanes.proofs.Spent.{never, never_twice}
use Rattle.stamp_lanes.proofs.law.lane_law.Goals as goal

pub returns : goal.returns
returns c = record {
  spent = never;
  once = λ member part number first second before between after nodes r. never_twice member part number first between second before after nodes r;
}
