use Rattle.std.proofs.Common.{◌≡◌, ◌-◌, ◌++◌}
use Rattle.std.specs.List.{last_or}
use Rattle.std.specs.Option.{option_copied}
use Rattle.reminder_rows.specs.Reminders.{by_due}
use Rattle.reminder_rows.proofs.Dues.{first_due}
use Rattle.reminder_rows.proofs.rows.ReminderRows.due.Given as goal

-- the keys so far, and those that follow
abbrev pub invariant-loop : goal.invariant-loop
invariant-loop l =
    first_due l.now (option_copied l.after) l.limit (by_due l.self.rows)
    ≡ l.keys.items ++ first_due l.now (last_or (option_copied l.after) l.keys.items) (l.limit - l.counter) (by_due l.self.rows)
