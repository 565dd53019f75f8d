use Rattle.std.proofs.Common.{sym}
use Rattle.schedule_text.proofs.Firings.{firings_from-at, firings_from-done, firings_from-out_of_range}
use Rattle.plain_commands.proofs.schedule.after.Goals as goal

pub returns-in-At : goal.returns-in-At
returns-in-At c = λ most. rw c.copy-rest.ensures (firings_from-at c.args.schedule.now c.args.moment most c.in-At.moment c.in-At.left (sym c.in-At.ensures))

pub returns-in-Done : goal.returns-in-Done
returns-in-Done c = λ most. firings_from-done c.args.schedule.now c.args.moment most (sym c.in-Done.ensures)

pub returns-in-OutOfRange : goal.returns-in-OutOfRange
returns-in-OutOfRange c = λ most. firings_from-out_of_range c.args.schedule.now c.args.moment most (sym c.in-OutOfRange.ensures)
