use Rattle.std.proofs.Common.{◌≡◌, ◌<◌, ◌≤◌, Some, None, sym, arith}
use Rattle.std.specs.List.{last_or}
use Rattle.std.specs.Option.{option_copied}
use Rattle.lists_and_limits.specs.Lists.{first_behind}
use Rattle.reminder_rows.specs.Reminders.{by_due, after_at}
use Rattle.reminder_rows.proofs.Sorted.{due-order}
use Rattle.reminder_rows.proofs.Dues.{told-more, told-none, told-late}
use Rattle.reminder_rows.proofs.rows.ReminderRows.due.Goals as goal

pub returns-in-None : goal.returns-in-None
returns-in-None c =
    let dues = by_due c.args.self.now.rows in
    let none : first_behind (after_at (last_or (option_copied c.args.after) c.loop.keys.items)) dues ≡ None = sym (rw c.last_or.ensures at c.in-None.ensures) in
    told-none c.args.now (option_copied c.args.after) dues (due-order c.args.self.now.rows) c.args.limit c.loop.counter c.loop.keys.items c.loop.invariant none

pub returns-then-nanos : goal.returns-then-nanos
returns-then-nanos c =
    let dues = by_due c.args.self.now.rows in
    let first : first_behind (after_at (last_or (option_copied c.args.after) c.loop.keys.items)) dues ≡ Some c.in-Some.key.now = sym (rw c.last_or.ensures at c.in-Some.ensures) in
    let late : c.args.now < c.in-Some.key.now.moment = omega arith in
    told-late c.args.now (option_copied c.args.after) dues (due-order c.args.self.now.rows) c.args.limit c.loop.counter c.loop.keys.items c.in-Some.key.now c.loop.invariant first late

pub loop-preserved : goal.loop-preserved
loop-preserved c =
    let dues = by_due c.args.self.now.rows in
    let first : first_behind (after_at (last_or (option_copied c.args.after) c.loop.keys.items)) dues ≡ Some c.in-Some.key.now = sym (rw c.last_or.ensures at c.in-Some.ensures) in
    let by_now : c.in-Some.key.now.moment ≤ c.args.now = omega arith in
    let below : c.loop.counter < c.args.limit = omega arith in
    rw (c.in_ok-push-in-Some.ensures.items, c.in_ok-key-in-Some.ensures)
    (told-more c.args.now (option_copied c.args.after) dues (due-order c.args.self.now.rows) c.args.limit c.loop.counter c.loop.keys.items c.in-Some.key.now below c.loop.invariant first by_now)
