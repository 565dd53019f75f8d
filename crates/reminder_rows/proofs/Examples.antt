-- Worked examples of the definitions.
use Rattle.std.proofs.Common.{◌≡◌, ℕ, List, [], ◌∷◌, Option, Some, None, Ok, Err, refl}
use Rattle.std.specs.Prelude.{codes}
use Rattle.actor_names.specs.Names.{default_space}
use Rattle.actor_names.specs.declared.actor_key.ActorKey.{ActorKey}
use Rattle.schedule_text.specs.declared.advance.Next.TheVariants.{At}
use Rattle.schedule_text.specs.Firing.{add_period, sum_of, first_after}
use Rattle.reminder_rows.specs.declared.reminder.Reminder.{Reminder}
use Rattle.reminder_rows.specs.declared.row.ReminderRow.{ReminderRow}
use Rattle.reminder_rows.specs.declared.error.FiredError.TheVariants.{NotThere, OtherMoment}
use Rattle.reminder_rows.specs.Reminders.{row_at, put_row, new_row, due_keys, fired_answer, fired_rows, fired_row}

bell : ActorKey
bell = record { space = default_space; kind = codes "bell"; id = codes "1" }

gong : ActorKey
gong = record { space = default_space; kind = codes "bell"; id = codes "2" }

a : List ℕ
a = codes "a"

-- first due at a moment, then every ten nanoseconds, that many times
every_ten : Option ℕ → ℕ → Reminder
every_ten first times =
    record {
      schedule = record { first = first; period = Some (record { months = 0; nanos = 10 }); left = Some times; «end» = None };
      due = [];
      period = [];
      ttl = [];
      payload = None;
    }

at_100 : ReminderRow
at_100 = new_row bell a 100 (every_ten (Some 100) 5)

one : List ReminderRow
one = put_row bell a (every_ten (Some 100) 5) []

-- another actor's reminder, which is due earlier
at_90 : ReminderRow
at_90 = new_row gong a 90 (every_ten (Some 90) 5)

two : List ReminderRow
two = put_row gong a (every_ten (Some 90) 5) one

records_stand_by_actor : two ≡ at_100 ∷ at_90 ∷ []
unfolding two one at_100 at_90 bell gong a every_ten
records_stand_by_actor = refl

put_takes_the_stead : put_row bell a (every_ten (Some 100) 5) (put_row bell a (every_ten (Some 7) 5) []) ≡ one
unfolding one bell a every_ten
put_takes_the_stead = refl

no_first_moment_leaves_none : put_row bell a (every_ten None 5) one ≡ []
unfolding one bell a every_ten
no_first_moment_leaves_none = refl

-- by moment, then by actor
earlier_moment_is_due_first : due_keys 100 None 9 two ≡ at_90.key ∷ at_100.key ∷ []
unfolding two one at_100 at_90 bell gong a every_ten
earlier_moment_is_due_first = refl

limit_cuts : due_keys 100 None 1 two ≡ at_90.key ∷ []
unfolding two one at_90 bell gong a every_ten
limit_cuts = refl

place_is_not_given_again : due_keys 100 (Some at_90.key) 9 two ≡ at_100.key ∷ []
unfolding two one at_100 at_90 bell gong a every_ten
place_is_not_given_again = refl

none_is_due_before_its_moment : due_keys 89 None 9 two ≡ []
unfolding two one bell gong a every_ten
none_is_due_before_its_moment = refl

-- three moments were missed, but only one firing fewer is left
fired_skips_missed_moments : fired_answer (row_at bell a one) 100 135 ≡ Ok (At 140 (Some 4))
unfolding one bell a every_ten add_period sum_of first_after
fired_skips_missed_moments = refl

fired_compares_moment : fired_answer (row_at bell a one) 99 135 ≡ Err (OtherMoment 100)
unfolding one bell a every_ten
fired_compares_moment = refl

fired_finds_none : fired_answer (row_at gong a one) 100 135 ≡ Err NotThere
unfolding one bell gong a every_ten
fired_finds_none = refl

fired_record_is_due_again : fired_rows bell a (row_at bell a one) 100 135 one ≡ fired_row at_100 140 (Some 4) ∷ []
unfolding one at_100 bell a every_ten add_period sum_of first_after
fired_record_is_due_again = refl

-- the last firing
once : List ReminderRow
once = put_row bell a (every_ten (Some 100) 1) []

done_removes_the_record : fired_rows bell a (row_at bell a once) 100 135 once ≡ []
unfolding once bell a every_ten
done_removes_the_record = refl
