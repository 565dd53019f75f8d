-- A book of timers, and how each call changes it. Own.
use Rattle.std.specs.Prelude.{ℕ, ◌+◌, ◌^◌, Bool, true, false, not, ◌&&◌, ◌==◌, nat_le, if◌then◌else◌, List, [], Option, None, Some, is_some, option_map}
use Rattle.actor_names.specs.declared.actor_key.ActorKey.{ActorKey}
use Rattle.schedule_text.specs.declared.advance.Next.{Next}
use Rattle.schedule_text.specs.declared.advance.Next.TheVariants.{At, Done, OutOfRange}
use Rattle.timer_book.specs.declared.timer.Timer.{Timer}
use Rattle.timer_book.specs.declared.entry.TimerEntry.{TimerEntry}
use Rattle.timer_book.specs.declared.entry.DueTimer.{DueTimer}
use Rattle.timer_book.specs.declared.error.TimerError.{TimerError}
use Rattle.timer_book.specs.declared.error.TimerError.TheVariants.{Full, Spent, OutOfMemory}
use Rattle.timer_book.specs.Entries.{timer_place, new_entry, next_of, due_of, entry_at, put_entry, without_entry, count_of, without_actor, due_entry}

-- how many registration numbers were drawn, and the timers in order of key and name
pub record BookState : Type 0 where
  pub drawn : ℕ
  pub timers : List TimerEntry

abbrev pub new_book : BookState
new_book = record { drawn = 0; timers = [] }

-- the actor has at least 1,024 timers, and none of this name
abbrev pub is_full : List TimerEntry → ActorKey → List ℕ → Bool
is_full timers key name = nat_le 1024 (count_of key timers) && not (is_some (entry_at (timer_place key name) timers))

-- why a registration is refused, apart from running out of memory
abbrev pub set_refusal : BookState → ActorKey → List ℕ → Option TimerError
set_refusal book key name =
    if is_full book.timers key name then Some Full else (
    if book.drawn == 2 ^ 62 then Some Spent else None)

-- the error of a call that fails: the one of the rules, or out of memory if there is none
abbrev pub or_memory : Option TimerError → TimerError
or_memory None = OutOfMemory
or_memory (Some e) = e

abbrev pub set_entry : ActorKey → List ℕ → ℕ → Timer → Option ℕ → List TimerEntry → List TimerEntry
set_entry key name number timer None timers = without_entry (timer_place key name) timers
set_entry key name number timer (Some first) timers = put_entry (new_entry key name number first timer) timers

-- The next number is drawn. A schedule without a first moment leaves no timer of this name; any other leaves the new
-- timer.
abbrev pub set_timer : BookState → ActorKey → List ℕ → Timer → BookState
set_timer book key name timer =
    record { drawn = book.drawn + 1; timers = set_entry key name (book.drawn + 1) timer timer.schedule.first book.timers }

abbrev pub has_timer : BookState → ActorKey → List ℕ → Bool
has_timer book key name = is_some (entry_at (timer_place key name) book.timers)

abbrev pub delete_timer : BookState → ActorKey → List ℕ → BookState
delete_timer book key name = record book { timers = without_entry (timer_place key name) book.timers }

-- the timer that is to fire first among those that are to fire by now and whose callback doesn't run
abbrev pub due_timer : BookState → ℕ → Option DueTimer
due_timer book now = option_map due_of (due_entry now book.timers)

abbrev pub of_number : ℕ → Option TimerEntry → Option TimerEntry
of_number number None = None
of_number number (Some e) = if e.number == number then Some e else None

-- the registration with this number, if it is still there
abbrev pub registered : List TimerEntry → ActorKey → List ℕ → ℕ → Option TimerEntry
registered timers key name number = of_number number (entry_at (timer_place key name) timers)

abbrev pub is_registered : BookState → ActorKey → List ℕ → ℕ → Bool
is_registered book key name number = is_some (registered book.timers key name number)

abbrev pub started_entry : Option TimerEntry → List TimerEntry → List TimerEntry
started_entry None timers = timers
started_entry (Some e) timers = put_entry (record e { running = true }) timers

abbrev pub start_timer : BookState → ActorKey → List ℕ → ℕ → BookState
start_timer book key name number = record book { timers = started_entry (registered book.timers key name number) book.timers }

-- what follows the firing of a registration, or Done if the registration is gone
abbrev pub next_after : Option TimerEntry → ℕ → Next
next_after None ended = Done
next_after (Some e) ended = next_of e ended

-- the timer fires again, or is removed
abbrev pub fired_entry : TimerEntry → Next → List TimerEntry → List TimerEntry
fired_entry e (At moment left) timers = put_entry (record e { moment = moment; left = left; running = false }) timers
fired_entry e Done timers = without_entry (timer_place e.key e.name) timers
fired_entry e OutOfRange timers = without_entry (timer_place e.key e.name) timers

abbrev pub finished_entry : Option TimerEntry → ℕ → List TimerEntry → List TimerEntry
finished_entry None ended timers = timers
finished_entry (Some e) ended timers = fired_entry e (next_of e ended) timers

abbrev pub finish_next : BookState → ActorKey → List ℕ → ℕ → ℕ → Next
finish_next book key name number ended = next_after (registered book.timers key name number) ended

abbrev pub finish_timer : BookState → ActorKey → List ℕ → ℕ → ℕ → BookState
finish_timer book key name number ended = record book { timers = finished_entry (registered book.timers key name number) ended book.timers }

abbrev pub drop_timers : BookState → ActorKey → BookState
drop_timers book key = record book { timers = without_actor key book.timers }
