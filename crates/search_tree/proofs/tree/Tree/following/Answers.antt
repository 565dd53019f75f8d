use Rattle.std.specs.Option.{option_copied}
use Rattle.lists_and_limits.proofs.Walks.{cut_place}
use Rattle.search_tree.proofs.tree.Tree.following.Goals as goal

pub next-requires : goal.next-requires
next-requires g c = cut_place g.E.Element.cmp g.met.E.Element.total (option_copied c.args.after) c.args.self.now c.requires
