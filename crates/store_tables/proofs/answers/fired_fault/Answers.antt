use Rattle.std.proofs.Common.{◌∙◌, sym}
use Rattle.reminder_rows.specs.Reminders.{row_at}
use Rattle.store_tables.proofs.Firings.{row-timely, other-moment, same-moment, has-first}
use Rattle.store_tables.proofs.answers.fired_fault.Goals as goal

pub returns-in-None-first : goal.returns-in-None-first
returns-in-None-first c at =
    let row = row_at c.args.actor.now c.args.name.now c.args.reminders.now.rows in
    let timely = row-timely c.args.actor.now c.args.name.now c.args.reminders.now.rows c.requires in
    absurd (has-first row c.args.moment at c.in-Some.reminder.now timely (sym c.in-Some.ensures) c.in-None-first.is)

pub returns-then-eq : goal.returns-then-eq
returns-then-eq c at =
    let row = row_at c.args.actor.now c.args.name.now c.args.reminders.now.rows in
    let timely = row-timely c.args.actor.now c.args.name.now c.args.reminders.now.rows c.requires in
    sym (same-moment row c.args.moment at c.in-Some.reminder.now c.in-Some-first.next timely (sym c.in-Some.ensures) c.in-Some-first.is (sym c.eq.ensures ∙ c.if-eq.true))

pub returns-else-eq : goal.returns-else-eq
returns-else-eq c at =
    let row = row_at c.args.actor.now c.args.name.now c.args.reminders.now.rows in
    let timely = row-timely c.args.actor.now c.args.name.now c.args.reminders.now.rows c.requires in
    sym (other-moment row c.args.moment at c.in-Some.reminder.now c.in-Some-first.next timely (sym c.in-Some.ensures) c.in-Some-first.is (sym c.eq.ensures ∙ c.if-eq.false))
