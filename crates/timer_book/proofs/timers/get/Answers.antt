use Rattle.timer_book.specs.Entries.{timer_place}
use Rattle.timer_book.proofs.Trees.{cut_place}
use Rattle.timer_book.proofs.timers.get.Goals as goal

pub get-requires : goal.get-requires
get-requires c = cut_place (timer_place c.args.key.now c.args.name.now) c.args.tree.now c.requires

pub returns : goal.returns
returns c = c.get.ensures
