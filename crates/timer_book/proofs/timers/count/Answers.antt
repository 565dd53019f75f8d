use Rattle.std.proofs.Common.{◌∙◌}
use Rattle.timer_book.proofs.Trees.{run_actor, count-actor}
use Rattle.timer_book.proofs.timers.count.Goals as goal

pub count-requires-clause-run : goal.count-requires-clause-run
count-requires-clause-run c = run_actor c.args.key.now c.args.tree.now c.requires.order

pub returns : goal.returns
returns c = c.count.ensures ∙ count-actor c.args.key.now c.args.tree.now
