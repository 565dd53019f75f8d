-- Reminders in order of actor and name, which of them are due, and how each call changes them. Own; reminders follow
-- the Actors API reference of Dapr.
use Rattle.std.specs.Prelude.{◌≡◌, ℕ, Bool, ◌==◌, nat_le, if◌then◌else◌, List, [], ◌∷◌, filter, take, Option, None, Some, Result, Ok, Err}
use Rattle.std.specs.List.{AllByRecursion}
use Rattle.std.specs.declared.cmp.Ordering.{Ordering}
use Rattle.std.specs.declared.cmp.Ordering.TheVariants.{Greater}
use Rattle.std.specs.Ordering.{nat_cmp, ordering_then, is_gt}
use Rattle.std.specs.Cmp.Lexicographic.{slice_cmp}
use Rattle.actor_names.specs.declared.actor_key.ActorKey.{ActorKey}
use Rattle.actor_names.specs.contracts.actor_key.ActorKeyOrd.TheImpl as actor_ord
use Rattle.schedule_text.specs.declared.advance.Next.{Next}
use Rattle.schedule_text.specs.declared.advance.Next.TheVariants.{At, Done, OutOfRange}
use Rattle.schedule_text.specs.Firing.{next_firing}
use Rattle.lists_and_limits.specs.Lists.{found, without, with_put}
use Rattle.reminder_rows.specs.declared.reminder.Reminder.{Reminder}
use Rattle.reminder_rows.specs.declared.row.ReminderRow.{ReminderRow}
use Rattle.reminder_rows.specs.declared.row.DueKey.{DueKey}
use Rattle.reminder_rows.specs.declared.error.FiredError.{FiredError}
use Rattle.reminder_rows.specs.declared.error.FiredError.TheVariants.{NotThere, OtherMoment}

-- the number of new records for which there is memory already, and the records in order of actor and name
pub record ReminderState : Type 0 where
  pub spare : ℕ
  pub rows : List ReminderRow

-- ---- records by actor and name

-- by actor, then by name in byte order
abbrev pub place_cmp : ActorKey → List ℕ → ActorKey → List ℕ → Ordering
place_cmp actor name other other_name = ordering_then ((actor_ord.ghosts).cmp actor other) (slice_cmp nat_cmp name other_name)

-- how a record compares with an actor and a name
abbrev pub at_name : ActorKey → List ℕ → ReminderRow → Ordering
at_name actor name e = place_cmp e.key.actor e.key.name actor name

abbrev pub row_cmp : ReminderRow → ReminderRow → Ordering
row_cmp a b = at_name b.key.actor b.key.name a

-- the record of an actor and a name
abbrev pub row_at : ActorKey → List ℕ → List ReminderRow → Option ReminderRow
row_at actor name rows = found (at_name actor name) rows

abbrev pub without_row : ActorKey → List ℕ → List ReminderRow → List ReminderRow
without_row actor name rows = without (at_name actor name) rows

abbrev pub reminder_in : Option ReminderRow → Option Reminder
reminder_in None = None
reminder_in (Some e) = Some e.reminder

-- a new record, which is first due at a moment
abbrev pub new_row : ActorKey → List ℕ → ℕ → Reminder → ReminderRow
new_row actor name moment reminder = record { key = record { moment = moment; actor = actor; name = name }; reminder = reminder }

abbrev pub put_at : Option ℕ → ActorKey → List ℕ → Reminder → List ReminderRow → List ReminderRow
put_at None actor name reminder rows = without_row actor name rows
put_at (Some moment) actor name reminder rows = with_put row_cmp (new_row actor name moment reminder) rows

-- A reminder takes the place of the one of its actor and name. After one without a first moment there is none.
abbrev pub put_row : ActorKey → List ℕ → Reminder → List ReminderRow → List ReminderRow
put_row actor name reminder rows = put_at reminder.schedule.first actor name reminder rows

-- ---- what is due

-- by moment, then by actor and name
abbrev pub due_cmp : DueKey → DueKey → Ordering
due_cmp a b = ordering_then (nat_cmp a.moment b.moment) (place_cmp a.actor a.name b.actor b.name)

-- the keys of records in the order in which they are due
abbrev pub by_due : List ReminderRow → List DueKey
by_due [] = []
by_due (x ∷ xs) = with_put due_cmp x.key (by_due xs)

-- the key of the record that was found, if it has this moment
abbrev pub key_in : ℕ → Option ReminderRow → Option DueKey
key_in moment None = None
key_in moment (Some e) = if e.key.moment == moment then Some e.key else None

-- how a key compares with a place in the order; without a place, each key is behind it
abbrev pub after_at : Option DueKey → DueKey → Ordering
after_at None k = Greater
after_at (Some place) k = due_cmp k place

abbrev pub is_after : Option DueKey → DueKey → Bool
is_after after k = is_gt (after_at after k)

abbrev pub is_due : ℕ → DueKey → Bool
is_due now k = nat_le k.moment now

-- the first keys, in the order in which they are due, of those that are behind a place and due by now
abbrev pub due_keys : ℕ → Option DueKey → ℕ → List ReminderRow → List DueKey
due_keys now after limit rows = take limit (filter (is_due now) (filter (is_after after) (by_due rows)))

-- ---- what a firing leaves

-- what follows when a record fires for its moment
abbrev pub next_of : ReminderRow → ℕ → Next
next_of e now = next_firing e.reminder.schedule e.key.moment now

-- a record that is due again, with what is left of its firings
abbrev pub fired_row : ReminderRow → ℕ → Option ℕ → ReminderRow
fired_row e moment left =
    record {
      key = record e.key { moment = moment };
      reminder = record e.reminder { schedule = record e.reminder.schedule { first = Some moment; left = left } };
    }

-- the records, with the one that was found due again
abbrev pub refired : Option ReminderRow → ℕ → Option ℕ → List ReminderRow → List ReminderRow
refired None moment left rows = rows
refired (Some e) moment left rows = with_put row_cmp (fired_row e moment left) rows

-- the records, if this follows the firing of one of them
abbrev pub after_next : ActorKey → List ℕ → Next → List ReminderRow → List ReminderRow
after_next actor name (At moment left) rows = refired (row_at actor name rows) moment left rows
after_next actor name Done rows = without_row actor name rows
after_next actor name OutOfRange rows = without_row actor name rows

-- the answer to a firing for a moment
abbrev pub fired_answer : Option ReminderRow → ℕ → ℕ → Result Next FiredError
fired_answer None moment now = Err NotThere
fired_answer (Some e) moment now = if e.key.moment == moment then Ok (next_of e now) else Err (OtherMoment e.key.moment)

-- the records after it
abbrev pub fired_rows : ActorKey → List ℕ → Option ReminderRow → ℕ → ℕ → List ReminderRow → List ReminderRow
fired_rows actor name None moment now rows = rows
fired_rows actor name (Some e) moment now rows = if e.key.moment == moment then after_next actor name (next_of e now) rows else rows

-- ---- the moments of records and of their schedules

-- a record is due at the first moment of its schedule
abbrev pub IsTimely : ReminderRow → Type 0
IsTimely e = e.reminder.schedule.first ≡ Some e.key.moment

-- each of them is
abbrev pub AreTimely : List ReminderRow → Type 0
AreTimely xs = AllByRecursion IsTimely xs

-- Each change keeps the records timely, and a timely record that is put anew is as it was.
pub record TimelyLaw : Type 0 where
  pub put : (actor : ActorKey) (name : List ℕ) (reminder : Reminder) (rows : List ReminderRow) → AreTimely rows → AreTimely (put_row actor name reminder rows)
  pub deleted : (actor : ActorKey) (name : List ℕ) (rows : List ReminderRow) → AreTimely rows → AreTimely (without_row actor name rows)
  pub fired : (actor : ActorKey) (name : List ℕ) (moment now : ℕ) (rows : List ReminderRow) → AreTimely rows → AreTimely (fired_rows actor name (row_at actor name rows) moment now rows)
  pub again : (e : ReminderRow) (rows : List ReminderRow) → IsTimely e → put_row e.key.actor e.key.name e.reminder rows ≡ with_put row_cmp e rows
