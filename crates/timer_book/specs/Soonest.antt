-- Which of some timers in a list is to fire first. Own.
use Rattle.std.specs.Prelude.{ℕ, Bool, true, false, nat_le, if◌then◌else◌, List, [], ◌∷◌, Option, None, Some, option_map}
use Rattle.timer_book.specs.declared.entry.TimerEntry.{TimerEntry}

-- whether there is a first moment, and it is not after the second one, if there is one
abbrev pub is_first : Option ℕ → Option ℕ → Bool
is_first None b = false
is_first (Some a) None = true
is_first (Some a) (Some b) = nat_le a b

-- the earlier of two moments
abbrev pub sooner : Option ℕ → Option ℕ → Option ℕ
sooner a b = if is_first a b then a else b

abbrev pub moment_in : Option TimerEntry → Option ℕ
moment_in found = option_map (λ e. e.moment) found

-- the timer that fires earlier, and of two with the same moment the first one
abbrev pub first_in : Option TimerEntry → Option TimerEntry → Option TimerEntry
first_in a b = if is_first (moment_in a) (moment_in b) then a else b

-- a timer that doesn't run
abbrev pub idle : TimerEntry → Option TimerEntry
idle e = if e.running then None else Some e

-- the timer that is to fire first of those that don't run
abbrev pub first_of : List TimerEntry → Option TimerEntry
first_of [] = None
first_of (x ∷ xs) = first_in (idle x) (first_of xs)

-- when the first of those that don't run is to fire
abbrev pub soonest_of : List TimerEntry → Option ℕ
soonest_of xs = moment_in (first_of xs)

-- a timer, if it is to fire by now
abbrev pub by_now : ℕ → Option TimerEntry → Option TimerEntry
by_now now None = None
by_now now (Some e) = if nat_le e.moment now then Some e else None
