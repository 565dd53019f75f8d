use Rattle.lists_and_limits.proofs.Walks.{walks}
use Rattle.search_tree.proofs.law.walk_law.Goals as goal

pub returns : goal.returns
returns g c = walks g.E.Element.cmp g.met.E.Element.total
