use Rattle.std.proofs.Common.{length, ap, ◌∙◌}
use Rattle.fence_rows.proofs.Lists.{length_steps}
use Rattle.fence_rows.proofs.together.FencedGrouped.step_all.Goals as goal

pub returns-clause-answered : goal.returns-clause-answered
returns-clause-answered g c =
    length_steps c.share.new.self c.step_each.new.self c.share.new.asks.items c.step_each.new.answers.items c.step_each.ensures.steps
    ∙ ap length (c.share.ensures.rests c.if-share.false).1
