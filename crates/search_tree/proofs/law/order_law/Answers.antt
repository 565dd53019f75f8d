use Rattle.lists_and_limits.proofs.Orders.{law}
use Rattle.search_tree.proofs.law.order_law.Goals as goal

pub returns : goal.returns
returns g c = law g.E.Element.cmp g.met.E.Element.total
