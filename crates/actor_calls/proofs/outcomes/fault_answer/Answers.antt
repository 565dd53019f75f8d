use Rattle.std.proofs.Common.{◌∙◌}
use Rattle.actor_calls.proofs.Servings.{fault_ended}
use Rattle.actor_calls.proofs.outcomes.fault_answer.Goals as goal

pub returns-in_default : goal.returns-in_default
returns-in_default c = c.ended_answer.ensures ∙ fault_ended c.args.reply c.args.error c.in_default.not-OutOfMemory
