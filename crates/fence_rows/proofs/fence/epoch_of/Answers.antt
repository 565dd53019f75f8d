use Rattle.std.proofs.Common.{◌∙◌}
use Rattle.fence_rows.proofs.Deciding.{tables_tell}
use Rattle.fence_rows.proofs.fence.epoch_of.Goals as goal

pub returns : goal.returns
returns c = c.epoch_told.ensures ∙ tables_tell c.args.tables.now.tables c.args.actor.now c.in_ok-actor.actor c.in_ok-key.key c.args.now c.in_ok-answer.answer c.in_ok-actor.ensures c.in_ok-key.ensures c.in_ok-answer.ensures.answer
