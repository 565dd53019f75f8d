use Rattle.std.proofs.Common.{sym, subst}
use Rattle.std.specs.Option.{option_copied}
use Rattle.std.proofs.lemmas.Result.{err_from_is_err_and}
use Rattle.reminder_rows.specs.Reminders.{row_cmp}
use Rattle.reminder_rows.specs.Orders.{rows_total}
use Rattle.std.specs.List.{AllByRecursion as Each}
use Rattle.lists_and_limits.proofs.Each.{each_at}
use Rattle.store_payloads.specs.Fits.{ReminderFits}
use Rattle.store_core.proofs.Rowed.{reminder_payloads, reminders_are}
use Rattle.store_core.proofs.Stagings.{stopped}
use Rattle.store_core.proofs.Adding.{may_staged}
use Rattle.store_core.proofs.Walking.{walked_none, walked_all, walked_more, walked_miss, rest, here}
use Rattle.store_core.proofs.staging.add_reminders.Goals as goal

pub loop-count-init : goal.loop-count-init
loop-count-init g c = walked_none row_cmp rows_total c.args.tables.now.tables (reminder_payloads c.args.now) (reminders_are c.args.now) c.args.tables.now.tables.reminders c.order_law.ensures.reminders c.args.journal.now c.requires.may c.requires.consistent

pub returns-in_default-clause-adds : goal.returns-in_default-clause-adds
returns-in_default-clause-adds g c = walked_all row_cmp rows_total c.args.tables.now.tables (reminder_payloads c.args.now) (reminders_are c.args.now) c.args.tables.now.tables.reminders c.order_law.ensures.reminders (option_copied c.loop-count.place) c.loop-count.count c.args.journal.now c.loop-count.journal (sym c.in_default.ensures) c.loop-count.invariant

pub returns-in_default-clause-may : goal.returns-in_default-clause-may
returns-in_default-clause-may g c = may_staged c.args.tables.now.tables _ c.args.journal.now c.loop-count.journal c.requires.may c.loop-count.invariant.staged

pub add_reminder-requires-clause-may : goal.add_reminder-requires-clause-may
add_reminder-requires-clause-may g c = may_staged c.args.tables.now.tables _ c.args.journal.now c.loop-count.journal c.requires.may c.loop-count.invariant.staged

pub add_reminder-requires-clause-fits : goal.add_reminder-requires-clause-fits
add_reminder-requires-clause-fits g c =
    each_at ReminderFits c.loop-count.invariant.front c.in-Some.row.now (rest row_cmp rows_total c.args.tables.now.tables (reminder_payloads c.args.now) (reminders_are c.args.now) c.args.tables.now.tables.reminders c.order_law.ensures.reminders (option_copied c.loop-count.place) c.loop-count.count c.in-Some.row.now c.args.journal.now c.loop-count.journal c.requires.may.paired (sym c.in-Some.ensures) c.loop-count.invariant).0 (subst (Each ReminderFits) (here row_cmp rows_total c.args.tables.now.tables (reminder_payloads c.args.now) (reminders_are c.args.now) c.args.tables.now.tables.reminders c.order_law.ensures.reminders (option_copied c.loop-count.place) c.loop-count.count c.in-Some.row.now c.args.journal.now c.loop-count.journal c.requires.may.paired (sym c.in-Some.ensures) c.loop-count.invariant) c.requires.fits.reminders)

pub returns-in_err-add_reminder-clause-adds : goal.returns-in_err-add_reminder-clause-adds
returns-in_err-add_reminder-clause-adds g c =
    let p = err_from_is_err_and c.from_residual.result c.from_residual.ensures.1 in
    rw (p.1, p.2)
    (walked_miss row_cmp rows_total c.args.tables.now.tables (reminder_payloads c.args.now) (reminders_are c.args.now) c.args.tables.now.tables.reminders c.order_law.ensures.reminders (option_copied c.loop-count.place) c.loop-count.count c.in-Some.row.now c.args.journal.now c.loop-count.journal c.requires.may.paired (sym c.in-Some.ensures) c.loop-count.invariant _ c.add_reminder.new.journal (c.in_err-add_reminder.ensures.adds c.args.tables.now.tables c.loop-count.invariant.staged.consistent))

pub returns-in_err-add_reminder-clause-may : goal.returns-in_err-add_reminder-clause-may
returns-in_err-add_reminder-clause-may g c = let p = err_from_is_err_and c.from_residual.result c.from_residual.ensures.1 in rw p.1 tt

pub loop-count-preserved : goal.loop-count-preserved
loop-count-preserved g c = walked_more row_cmp rows_total c.args.tables.now.tables (reminder_payloads c.args.now) (reminders_are c.args.now) c.args.tables.now.tables.reminders c.order_law.ensures.reminders (option_copied c.loop-count.place) c.loop-count.count c.in-Some.row.now c.args.journal.now c.loop-count.journal c.requires.may.paired (sym c.in-Some.ensures) c.loop-count.invariant c.add_reminder.new.journal (c.in_ok-add_reminder.ensures.adds c.args.tables.now.tables c.loop-count.invariant.staged.consistent)

pub returns-clause-adds : goal.returns-clause-adds
returns-clause-adds g c = stopped c.args.tables.now.tables _ c.args.journal.now c.loop-count.journal c.loop-count.journal c.requires.may.paired c.loop-count.invariant.staged
