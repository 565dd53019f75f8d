use Rattle.std.proofs.Common.{◌∙◌}
use Rattle.timer_book.specs.Entries.{timer_place}
use Rattle.timer_book.proofs.Trees.{cut_place, changed-place}
use Rattle.timer_book.proofs.timers.change.Goals as goal

pub change-requires : goal.change-requires
change-requires c = cut_place (timer_place c.args.key.now c.args.name.now) c.args.tree.now c.requires

pub returns : goal.returns
returns c = c.change.ensures ∙ changed-place (timer_place c.args.key.now c.args.name.now) c.args.next.now.moment c.args.next.now.left c.args.next.now.running c.args.tree.now c.requires
