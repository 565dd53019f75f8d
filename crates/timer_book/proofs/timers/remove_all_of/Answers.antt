use Rattle.std.proofs.Common.{◌∙◌}
use Rattle.timer_book.proofs.Trees.{run_actor, all-actor}
use Rattle.timer_book.proofs.timers.remove_all_of.Goals as goal

pub remove_all-requires : goal.remove_all-requires
remove_all-requires c = run_actor c.args.key.now c.args.tree.now c.requires

pub returns : goal.returns
returns c = c.remove_all.ensures ∙ all-actor c.args.key.now c.args.tree.now
