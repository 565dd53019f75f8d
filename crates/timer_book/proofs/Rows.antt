-- Worked examples of the definitions.
use Rattle.std.proofs.Common.{◌≡◌, true, false, [], ◌∷◌, Some, None, refl}
use Rattle.actor_names.specs.Names.{default_space}
use Rattle.std.specs.Prelude.{codes}
use Rattle.actor_names.specs.declared.actor_key.ActorKey.{ActorKey}
use Rattle.schedule_text.specs.declared.advance.Schedule.{Schedule}
use Rattle.schedule_text.specs.declared.advance.Next.TheVariants.{At}
use Rattle.schedule_text.specs.Firing.{add_period, sum_of, first_after}
use Rattle.timer_book.specs.declared.timer.Timer.{Timer}
use Rattle.timer_book.specs.declared.entry.TimerEntry.{TimerEntry}
use Rattle.timer_book.specs.Entries.{due_of, new_entry}
use Rattle.timer_book.specs.Book.{BookState, new_book, set_timer, has_timer, due_timer, start_timer, is_registered, finish_next, finish_timer, drop_timers}

bell : ActorKey
bell = record { space = default_space; kind = codes "bell"; id = codes "1" }

gong : ActorKey
gong = record { space = default_space; kind = codes "bell"; id = codes "10" }

-- due after a second, then every five
every_five : Schedule
every_five = record { first = Some 1000000000; period = Some (record { months = 0; nanos = 5000000000 }); left = None; «end» = None }

timer_of : Schedule → Timer
timer_of schedule = record { schedule = schedule; callback = codes "ring"; payload = None; due = codes "1s"; period = codes "5s" }

one : BookState
one = set_timer new_book bell (codes "a") (timer_of every_five)

two : BookState
two = set_timer one gong (codes "a") (timer_of every_five)

entry_one : TimerEntry
entry_one = new_entry bell (codes "a") 1 1000000000 (timer_of every_five)

first_number_is_one : one ≡ record { drawn = 1; timers = entry_one ∷ [] }
unfolding one entry_one every_five timer_of bell
first_number_is_one = refl

not_due_before_its_moment : due_timer one 999999999 ≡ None
unfolding one every_five timer_of bell
not_due_before_its_moment = refl

due_at_its_moment : due_timer one 1000000000 ≡ Some (due_of entry_one)
unfolding one entry_one every_five timer_of bell
due_at_its_moment = refl

-- at the same moment the lesser key is first
lesser_key_is_due_first : due_timer two 1000000000 ≡ Some (due_of entry_one)
unfolding two one entry_one every_five timer_of bell gong
lesser_key_is_due_first = refl

running_timer_is_not_due : due_timer (start_timer one bell (codes "a") 1) 9000000000 ≡ None
unfolding one every_five timer_of bell
running_timer_is_not_due = refl

period_counts_from_callback_end : finish_next one bell (codes "a") 1 1400000000 ≡ At 6400000000 None
unfolding one every_five timer_of bell add_period sum_of first_after
period_counts_from_callback_end = refl

old_number_is_gone : is_registered (set_timer one bell (codes "a") (timer_of every_five)) bell (codes "a") 1 ≡ false
unfolding one every_five timer_of bell
old_number_is_gone = refl

-- a schedule without a first moment removes the timer and draws its number
no_first_moment_removes : set_timer one bell (codes "a") (timer_of (record every_five { first = None })) ≡ record { drawn = 2; timers = [] }
unfolding one every_five timer_of bell
no_first_moment_removes = refl

-- without a period there is only one firing
last_firing_removes : finish_timer (set_timer new_book bell (codes "a") (timer_of (record every_five { period = None }))) bell (codes "a") 1 2000000000 ≡ record { drawn = 1; timers = [] }
unfolding every_five timer_of bell
last_firing_removes = refl

other_actor_keeps_its_timers : has_timer (drop_timers two bell) gong (codes "a") ≡ true
unfolding two one every_five timer_of bell gong
other_actor_keeps_its_timers = refl

dropped_actor_has_none : has_timer (drop_timers two bell) bell (codes "a") ≡ false
unfolding two one every_five timer_of bell gong
dropped_actor_has_none = refl
