-- The reminders that are due, as they are told: as many as one frame carries. Own.
use Rattle.std.specs.Prelude.{ℕ, ◌-◌, ◌==◌, Bool, true, false, ◌||◌, nat_le, if◌then◌else◌, List, [], ◌∷◌, ◌++◌, length, Option, None, Some}
use Rattle.reminder_rows.specs.declared.reminder.Reminder.{Reminder}
use Rattle.reminder_rows.specs.declared.row.ReminderRow.{ReminderRow}
use Rattle.reminder_rows.specs.declared.row.DueKey.{DueKey}
use Rattle.reminder_rows.specs.Reminders.{row_at, reminder_in, due_keys}
use Rattle.frame_wire.specs.declared.store_answer.DueEntry.{DueEntry}
use Rattle.frame_wire.specs.StoreParts.{due_entry}

-- what is told of a reminder that is due
abbrev pub entry_of : DueKey → Reminder → DueEntry
entry_of k r = record { key = k; due = r.due; period = r.period; payload = r.payload }

abbrev pub with_entry : DueKey → Option Reminder → List DueEntry → List DueEntry
with_entry k None es = es
with_entry k (Some r) es = entry_of k r ∷ es

-- what is told of the reminders under these keys
abbrev pub entries_of : List ReminderRow → List DueKey → List DueEntry
entries_of rows [] = []
entries_of rows (k ∷ ks) = with_entry k (reminder_in (row_at k.actor k.name rows)) (entries_of rows ks)

-- the bytes of an entry in a frame
abbrev pub entry_size : DueEntry → ℕ
entry_size e = length (due_entry.spell e)

-- the first ones that have room in so many bytes; if `first` is true, the first of all in any case
abbrev pub fitting : Bool → ℕ → List DueEntry → List DueEntry
fitting first room [] = []
fitting first room (e ∷ es) = if first || nat_le (entry_size e) room then e ∷ fitting false (room - entry_size e) es else []

-- the same, after some were told already
abbrev pub told_with : List DueEntry → ℕ → List DueEntry → List DueEntry
told_with es room rest = es ++ fitting (length es == 0) room rest

-- A frame has at most 5,242,880 bytes behind its length, of which the kind and the count take three.
abbrev pub entries_room : ℕ
entries_room = 5242877

-- The reminders due by now behind a place, at most `limit`. The list ends early if its frame would be too long; the
-- first one is told in any case.
abbrev pub due_list : ℕ → Option DueKey → ℕ → List ReminderRow → List DueEntry
due_list now after limit rows = fitting true entries_room (entries_of rows (due_keys now after limit rows))
