-- Each record is due at the first moment of its schedule.
use Rattle.std.proofs.Common.{◌≡◌, ℕ, Bool, true, false, ◌==◌, if◌then◌else◌, List, Option, Some, None, refl, ap}
use Rattle.std.specs.declared.cmp.Ordering.{Ordering}
use Rattle.actor_names.specs.declared.actor_key.ActorKey.{ActorKey}
use Rattle.schedule_text.specs.declared.advance.Next.{Next}
use Rattle.schedule_text.specs.declared.advance.Next.TheVariants.{At, Done, OutOfRange}
use Rattle.lists_and_limits.specs.Lists.{with_put, without}
use Rattle.lists_and_limits.proofs.Each.{each_put, each_without}
use Rattle.reminder_rows.specs.declared.reminder.Reminder.{Reminder}
use Rattle.reminder_rows.specs.declared.row.ReminderRow.{ReminderRow}
use Rattle.reminder_rows.specs.Reminders.{row_cmp, row_at, put_at, put_row, next_of, fired_row, refired, after_next, fired_rows, IsTimely, AreTimely, TimelyLaw}

timely-with : (e : ReminderRow) (rows : List ReminderRow) → IsTimely e → AreTimely rows → AreTimely (with_put row_cmp e rows)
timely-with = each_put IsTimely row_cmp

timely-without : (at : ReminderRow → Ordering) (rows : List ReminderRow) → AreTimely rows → AreTimely (without at rows)
timely-without = each_without IsTimely

timely-put : (actor : ActorKey) (name : List ℕ) (reminder : Reminder) (rows : List ReminderRow) → AreTimely rows → AreTimely (put_row actor name reminder rows)
timely-put actor name reminder rows a = go reminder.schedule.first refl
  where
    go : (first : Option ℕ) → reminder.schedule.first ≡ first → AreTimely (put_at first actor name reminder rows)
    go None h = timely-without _ rows a
    go (Some moment) h = timely-with _ rows h a

timely-refired : (o : Option ReminderRow) (moment : ℕ) (left : Option ℕ) (rows : List ReminderRow) → AreTimely rows → AreTimely (refired o moment left rows)
timely-refired None moment left rows a = a
timely-refired (Some e) moment left rows a = timely-with (fired_row e moment left) rows refl a

timely-next : (actor : ActorKey) (name : List ℕ) (next : Next) (rows : List ReminderRow) → AreTimely rows → AreTimely (after_next actor name next rows)
timely-next actor name (At moment left) rows a = timely-refired (row_at actor name rows) moment left rows a
timely-next actor name Done rows a = timely-without _ rows a
timely-next actor name OutOfRange rows a = timely-without _ rows a

timely-fired : (actor : ActorKey) (name : List ℕ) (moment now : ℕ) (rows : List ReminderRow) → AreTimely rows → AreTimely (fired_rows actor name (row_at actor name rows) moment now rows)
timely-fired actor name moment now rows a = go (row_at actor name rows)
  where
    by : (e : ReminderRow) (b : Bool) → AreTimely (if b then after_next actor name (next_of e now) rows else rows)
    by e true = timely-next actor name (next_of e now) rows a
    by e false = a

    go : (o : Option ReminderRow) → AreTimely (fired_rows actor name o moment now rows)
    go None = a
    go (Some e) = by e (e.key.moment == moment)

again : (e : ReminderRow) (rows : List ReminderRow) → IsTimely e → put_row e.key.actor e.key.name e.reminder rows ≡ with_put row_cmp e rows
again e rows t = ap (λ first. put_at first e.key.actor e.key.name e.reminder rows) t

pub timely : TimelyLaw
timely = record {
  put = timely-put;
  deleted = λ actor name rows a. timely-without _ rows a;
  fired = timely-fired;
  again = again;
}
