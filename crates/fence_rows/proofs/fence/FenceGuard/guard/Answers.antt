use Rattle.std.proofs.Common.{ap, ◌∙◌}
use Rattle.frame_wire.specs.declared.store_answer.StoreAnswer.TheVariants.{Refused}
use Rattle.frame_wire.specs.declared.store_command.StoreCommand.TheVariants.{Tx}
use Rattle.frame_wire.specs.declared.store_refusal.StoreRefusal.TheVariants.{Reopen}
use Rattle.store_core.specs.declared.guard.Guarded.TheVariants.{Answer}
use Rattle.fence_rows.specs.declared.event.FencedAnswer.TheVariants as answers
use Rattle.fence_rows.specs.declared.event.FencedCommand.{FencedCommand}
use Rattle.fence_rows.specs.declared.event.FencedCommand.TheVariants as fenced
use Rattle.fence_rows.specs.declared.event.FencedEvent.TheVariants.{Command}
use Rattle.fence_rows.specs.declared.event.FencedOutcome.TheVariants as outcomes
use Rattle.fence_rows.proofs.Deciding.{decides_broken, decides_at}
use Rattle.fence_rows.proofs.fence.FenceGuard.guard.Goals as goal

pub returns-then-is_broken-clause-decides : goal.returns-then-is_broken-clause-decides
returns-then-is_broken-clause-decides c s same broken =
    rw (c.answered.ensures, c.refused.ensures)
    (decides_at s c.args.asked (Command (fenced.Tx c.in-Tx.epoch (Tx c.in-Tx-command.stamp c.in-Tx-command.actor c.in-Tx-command.ops)) c.in-Command.now) (Answer (outcomes.Answer (answers.Answer (Refused Reopen))))
    (c.in-Command.is ∙ ap (λ (command : FencedCommand). Command command c.in-Command.now) (c.in-Tx.is ∙ ap (fenced.Tx c.in-Tx.epoch) c.in-Tx-command.is))
    (decides_broken s c.in-Tx.epoch c.in-Tx-command.stamp c.in-Tx-command.actor c.in-Tx-command.ops c.in-Command.now (broken ∙ c.if-is_broken.true)))

pub returns-in-Plain-clause-decides : goal.returns-in-Plain-clause-decides
returns-in-Plain-clause-decides c s same broken =
    decides_at s c.args.asked (Command (fenced.Plain c.in-Plain.command) c.in-Command.now) c.pass_plain.result
    (c.in-Command.is ∙ ap (λ (command : FencedCommand). Command command c.in-Command.now) c.in-Plain.is) (c.pass_plain.ensures s)

pub returns-else-is_broken-clause-decides : goal.returns-else-is_broken-clause-decides
returns-else-is_broken-clause-decides c s same broken =
    decides_at s c.args.asked (Command (fenced.Tx c.in-Tx.epoch (Tx c.in-Tx-command.stamp c.in-Tx-command.actor c.in-Tx-command.ops)) c.in-Command.now) c.pass_transaction.result
    (c.in-Command.is ∙ ap (λ (command : FencedCommand). Command command c.in-Command.now) (c.in-Tx.is ∙ ap (fenced.Tx c.in-Tx.epoch) c.in-Tx-command.is))
    (c.pass_transaction.ensures.decides s same (broken ∙ c.if-is_broken.false))
