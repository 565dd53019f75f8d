use Rattle.reminder_rows.proofs.Newest.{fresh-order}
use Rattle.reminder_rows.proofs.rows.ReminderRows.in_order.Goals as goal

pub returns : goal.returns
returns c = rw (← c.self.view_is) (fresh-order c.self.inside.fresh c.self.inside.filed c.in_order.ensures)
