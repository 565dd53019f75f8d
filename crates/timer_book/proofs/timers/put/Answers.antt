use Rattle.timer_book.specs.Entries.{entry_place}
use Rattle.timer_book.proofs.Trees.{cut_place}
use Rattle.timer_book.proofs.timers.put.Goals as goal

pub put-requires : goal.put-requires
put-requires c = cut_place (entry_place c.in_ok-node.node.value.element) c.args.tree.now c.requires

pub returns-clause-ok : goal.returns-clause-ok
returns-clause-ok c =
    rw c.in_ok-node.ensures at c.put.ensures
