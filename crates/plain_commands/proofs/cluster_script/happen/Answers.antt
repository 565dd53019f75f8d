use Rattle.std.proofs.Common.{sym, subst, ◌∙◌, Err}
use Rattle.world_run.specs.Worlds.{GivesStep}
use Rattle.plain_commands.specs.Replay.{cluster_after}
use Rattle.plain_commands.proofs.LineLemmas.{cluster_happened}
use Rattle.plain_commands.proofs.cluster_script.happen.Goals as goal

pub returns-in-Ok-add_outcome : goal.returns-in-Ok-add_outcome
returns-in-Ok-add_outcome c s events is =
    cluster_happened s events c.args.column c.args.event c.args.world.now c.step.new.self c.step.result c.in-Ok.outcome c.args.transcript.now c.add_outcome.new.self
    (sym (c.is_falling.ensures (cluster_after s events) is) ∙ c.if-is_falling.false) (c.step.ensures (cluster_after s events) (sym is)) c.in-Ok.is c.in-Ok-add_outcome.ensures.added
