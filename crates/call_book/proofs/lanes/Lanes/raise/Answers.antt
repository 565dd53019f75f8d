use Rattle.call_book.proofs.Counted.{cut_lane, counted_raised}
use Rattle.call_book.proofs.lanes.Lanes.raise.Goals as goal

pub change-requires : goal.change-requires
change-requires c = cut_lane c.args.name.now c.self.inside.tree c.self.inside.count c.self.invariant

pub invariant_of-self : goal.invariant_of-self
invariant_of-self c = rw c.change.ensures (counted_raised c.args.name.now c.args.number c.self.inside.tree c.self.inside.count c.self.invariant)
