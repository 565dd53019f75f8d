use Rattle.timer_book.specs.Entries.{timer_place}
use Rattle.timer_book.proofs.Trees.{cut_place}
use Rattle.timer_book.proofs.timers.remove.Goals as goal

pub remove-requires : goal.remove-requires
remove-requires c = cut_place (timer_place c.args.key.now c.args.name.now) c.args.tree.now c.requires

pub returns-clause-there : goal.returns-clause-there
returns-clause-there c = c.remove.ensures.there

pub returns-clause-gone : goal.returns-clause-gone
returns-clause-gone c = c.remove.ensures.rest
