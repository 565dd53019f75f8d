use Rattle.std.proofs.Common.{Some}
use Rattle.std.specs.Option.{option_copied}
use Rattle.reminder_rows.specs.Filing.{IsNew}
use Rattle.reminder_rows.proofs.Newest.{first-fresh}
use Rattle.reminder_rows.proofs.rows.ReminderRows.first_after.Goals as goal

pub returns-in-Some : goal.returns-in-Some
returns-in-Some c =
    let new : IsNew (Some c.in-Some.row) c.self.inside.filed = rw c.in-Some.is at c.self.invariant in
    rw (← c.self.view_is, c.in-Some.is, first-fresh (option_copied c.args.after) c.in-Some.row c.self.inside.filed new, ← c.next-filed.ensures) c.first_with.ensures
