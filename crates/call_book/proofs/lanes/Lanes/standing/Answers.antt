use Rattle.call_book.proofs.Counted.{cut_lane}
use Rattle.call_book.proofs.lanes.Lanes.standing.Goals as goal

pub get-requires : goal.get-requires
get-requires c = cut_lane c.args.name.now c.self.inside.tree c.self.inside.count c.self.invariant
