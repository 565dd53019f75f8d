-- Timers in order of space, type, id and name. Own; timers follow the Actors API reference of Dapr.
use Rattle.std.specs.Prelude.{true, ◌≡◌, ℕ, suc, Bool, false, not, ◌&&◌, ◌||◌, ◌==◌, nat_lt, nat_le, if◌then◌else◌, List, [], ◌∷◌, filter, bytes_eq, Option, None, Some}
use Rattle.std.specs.declared.cmp.Ordering.{Ordering}
use Rattle.std.specs.Ordering.{nat_cmp, is_eq, is_lt}
use Rattle.std.specs.Cmp.Lexicographic.{slice_cmp}
use Rattle.lists_and_limits.specs.Lists.{In, found, without, with_put}
use Rattle.lists_and_limits.specs.Orders.{AscendBy}
use Rattle.actor_names.specs.Same.{same_key}
use Rattle.actor_names.specs.declared.actor_key.ActorKey.{ActorKey}
use Rattle.schedule_text.specs.declared.advance.Next.{Next}
use Rattle.schedule_text.specs.Firing.{next_firing}
use Rattle.timer_book.specs.declared.timer.Timer.{Timer}
use Rattle.timer_book.specs.declared.entry.TimerEntry.{TimerEntry}
use Rattle.timer_book.specs.declared.entry.DueTimer.{DueTimer}

-- what a timer is ordered by: the space, the type, the id and the name
abbrev pub timer_place : ActorKey → List ℕ → List (List ℕ)
timer_place key name = key.space ∷ key.kind ∷ key.id ∷ name ∷ []

abbrev pub entry_place : TimerEntry → List (List ℕ)
entry_place e = timer_place e.key e.name

-- the first part that differs decides, in byte order
abbrev pub place_cmp : List (List ℕ) → List (List ℕ) → Ordering
place_cmp a b = slice_cmp (slice_cmp nat_cmp) a b

-- how a timer compares with a place
abbrev pub at_place : List (List ℕ) → TimerEntry → Ordering
at_place place e = place_cmp (entry_place e) place

abbrev pub is_at : List (List ℕ) → TimerEntry → Bool
is_at place e = is_eq (at_place place e)

abbrev pub is_of : ActorKey → TimerEntry → Bool
is_of key e = same_key e.key key

-- what the timers of an actor are ordered by first
abbrev pub actor_place : ActorKey → List (List ℕ)
actor_place key = key.space ∷ key.kind ∷ key.id ∷ []

-- ---- one timer

-- a registration that fires first at a moment
abbrev pub new_entry : ActorKey → List ℕ → ℕ → ℕ → Timer → TimerEntry
new_entry key name number first timer =
    record { key = key; name = name; number = number; moment = first; left = timer.schedule.left; running = false; timer = timer }

-- what follows a firing whose callback ended at the moment `ended`
abbrev pub next_of : TimerEntry → ℕ → Next
next_of e ended = next_firing (record e.timer.schedule { left = e.left }) ended ended

abbrev pub due_of : TimerEntry → DueTimer
due_of e = record { key = e.key; name = e.name; number = e.number; moment = e.moment; timer = e.timer }

-- whether the timer is to fire by now and its callback doesn't run
abbrev pub is_waiting : ℕ → TimerEntry → Bool
is_waiting now e = not e.running && nat_le e.moment now

-- whether a fires before b: by moment, then by key and name
abbrev pub is_earlier : TimerEntry → TimerEntry → Bool
is_earlier a b = nat_lt a.moment b.moment || ((a.moment == b.moment) && is_lt (place_cmp (entry_place a) (entry_place b)))

-- ---- timers in order, a key and name once

abbrev pub Ascends : List TimerEntry → Type 0
Ascends xs = AscendBy entry_place place_cmp xs

-- the timer at a place
abbrev pub entry_at : List (List ℕ) → List TimerEntry → Option TimerEntry
entry_at place xs = found (at_place place) xs

-- puts a timer in its place, and replaces one with its key and name
abbrev pub put_entry : TimerEntry → List TimerEntry → List TimerEntry
put_entry e xs = with_put (λ a b. at_place (entry_place b) a) e xs

-- the timers without the one at a place
abbrev pub without_entry : List (List ℕ) → List TimerEntry → List TimerEntry
without_entry place xs = without (at_place place) xs

-- how many timers an actor has
abbrev pub count_of : ActorKey → List TimerEntry → ℕ
count_of key [] = 0
count_of key (x ∷ xs) = if is_of key x then suc (count_of key xs) else count_of key xs

-- the timers without those of an actor
abbrev pub without_actor : ActorKey → List TimerEntry → List TimerEntry
without_actor key xs = filter (λ e. not (is_of key e)) xs

-- the earlier of a timer and what was found after it
abbrev pub earlier_of : TimerEntry → Option TimerEntry → Option TimerEntry
earlier_of e None = Some e
earlier_of e (Some f) = if is_earlier e f then Some e else Some f

-- the timer that is to fire first of those that wait
abbrev pub due_entry : ℕ → List TimerEntry → Option TimerEntry
due_entry now [] = None
due_entry now (x ∷ xs) = if is_waiting now x then earlier_of x (due_entry now xs) else due_entry now xs

-- ---- what the definitions are held to

-- no waiting timer is to fire earlier
abbrev pub NoneEarlier : ℕ → TimerEntry → List TimerEntry → Type 0
NoneEarlier now e [] = Unit {0}
NoneEarlier now e (x ∷ xs) = (is_waiting now x ≡ true → is_earlier x e ≡ false) × NoneEarlier now e xs

abbrev pub NoneWaits : ℕ → List TimerEntry → Type 0
NoneWaits now [] = Unit {0}
NoneWaits now (x ∷ xs) = (is_waiting now x ≡ false) × NoneWaits now xs

-- it is one of the timers, it waits, and no waiting timer is to fire earlier
abbrev pub IsFirstDue : ℕ → TimerEntry → List TimerEntry → Type 0
IsFirstDue now e xs = In e xs × (is_waiting now e ≡ true) × NoneEarlier now e xs
