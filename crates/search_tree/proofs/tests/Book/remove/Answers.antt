use Rattle.std.specs.Ordering.{nat_cmp}
use Rattle.std.proofs.lemmas.Cmp.{nat_cmp_total}
use Rattle.search_tree.specs.declared.tests.Entry.{Entry}
use Rattle.lists_and_limits.proofs.Orders.{cut_key, ascends_without}
use Rattle.search_tree.proofs.tests.Book.remove.Goals as goal

pub remove-requires : goal.remove-requires
remove-requires c = cut_key (λ (e : Entry). e.key) nat_cmp nat_cmp_total c.args.key c.self.inside.tree c.self.invariant

pub invariant_of-self : goal.invariant_of-self
invariant_of-self c = rw c.remove.ensures.rest (ascends_without (λ (e : Entry). e.key) nat_cmp (λ (x : Entry). nat_cmp x.key c.args.key) c.self.inside.tree c.self.invariant)
