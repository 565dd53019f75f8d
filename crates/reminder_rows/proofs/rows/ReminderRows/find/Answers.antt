use Rattle.std.proofs.Common.{◌≡◌, true, false, Some, sym, ◌∙◌}
use Rattle.std.specs.Ordering.{is_eq}
use Rattle.reminder_rows.specs.Reminders.{at_name}
use Rattle.reminder_rows.proofs.Newest.{its, other}
use Rattle.reminder_rows.proofs.rows.ReminderRows.find.Goals as goal

pub returns-then-is_named : goal.returns-then-is_named
returns-then-is_named c =
    let named : is_eq (at_name c.args.actor.now c.args.name.now c.in-Some.row) ≡ true = sym c.is_named.ensures ∙ c.if-is_named.true in
    rw (← c.self.view_is, c.in-Some.is) (sym (its c.args.actor.now c.args.name.now c.self.inside.filed c.in-Some.row named))

pub returns-else-is_named : goal.returns-else-is_named
returns-else-is_named c =
    let not : is_eq (at_name c.args.actor.now c.args.name.now c.in-Some.row) ≡ false = sym c.is_named.ensures ∙ c.if-is_named.false in
    rw (← c.self.view_is, c.in-Some.is) (c.get-else-is_named.ensures ∙ sym (other c.args.actor.now c.args.name.now c.self.inside.filed (Some c.in-Some.row) not))
