use Rattle.std.specs.Ordering.{nat_cmp}
use Rattle.std.proofs.lemmas.Cmp.{nat_cmp_total}
use Rattle.search_tree.specs.declared.tests.Entry.{Entry}
use Rattle.lists_and_limits.proofs.Orders.{cut_key, ascends_put}
use Rattle.search_tree.proofs.tests.Book.put.Goals as goal

pub put-requires : goal.put-requires
put-requires c = cut_key (λ (e : Entry). e.key) nat_cmp nat_cmp_total c.args.node.value.element.key c.self.inside.tree c.self.invariant

pub invariant_of-self : goal.invariant_of-self
invariant_of-self c = rw c.put.ensures (ascends_put (λ (e : Entry). e.key) nat_cmp nat_cmp_total c.args.node.value.element c.self.inside.tree c.self.invariant)
