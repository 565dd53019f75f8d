-- When a schedule fires. Own; the months follow the calendar of ISO 8601.
use Rattle.std.specs.Prelude.{◌≡◌, ℕ, zero, suc, ◌+◌, ◌-◌, ◌<◌, ◌≤◌, Bool, true, false, ◌&&◌, ◌==◌, nat_lt, nat_le, if◌then◌else◌, List, [], ◌∷◌, Option, None, Some, option_map}
use Rattle.schedule_text.specs.declared.advance.Period.{Period}
use Rattle.schedule_text.specs.declared.advance.Schedule.{Schedule}
use Rattle.schedule_text.specs.declared.advance.Next.{Next}
use Rattle.schedule_text.specs.declared.advance.Next.TheVariants.{At, Done, OutOfRange}
use Rattle.schedule_text.specs.Calendar.{months_on}
use Rattle.schedule_text.specs.Range.{moment_of}

-- the nanoseconds since 1970 one period later, which may be past the last moment: months, then nanoseconds
unfoldable pub sum_of : ℕ → Period → ℕ
sum_of moment period = (if period.months == 0 then moment else months_on moment period.months) + period.nanos

-- the moment one period later, if it isn't past the last moment
unfoldable pub add_period : ℕ → Period → Option ℕ
add_period moment period = moment_of (sum_of moment period)

-- The first moment after `now` among those that follow `moment` by one period each, if all up to it are moments. It
-- is at most `most` periods away.
unfoldable pub first_after : ℕ → Period → ℕ → ℕ → Option ℕ
first_after zero period now moment = None
first_after (suc most) period now moment =
    elim (add_period moment period) [
      | None ↦ None
      | Some next ↦ elim (nat_lt now next) [ true ↦ Some next | false ↦ first_after most period now next ]
    ]

-- a period is at least a nanosecond, so there are no more periods up to now than nanoseconds
abbrev pub following : Period → ℕ → ℕ → Option ℕ
following period moment now = first_after (suc (now - moment)) period now moment

-- whether a moment is before the end; without an end, every moment is
abbrev pub is_before_end : ℕ → Option ℕ → Bool
is_before_end moment None = true
is_before_end moment (Some end) = nat_lt moment end

-- the answer for the moment that follows; one past the last moment is after every end
abbrev pub next_at : Option ℕ → Option ℕ → Option ℕ → Next
next_at None left None = OutOfRange
next_at (Some end) left None = Done
next_at end left (Some moment) = if is_before_end moment end then At moment (option_map (λ n. n - 1) left) else Done

-- whether a period has zero length
abbrev pub is_zero : Period → Bool
is_zero period = (period.months == 0) && (period.nanos == 0)

-- whether at most one firing is left
abbrev pub is_last : Option ℕ → Bool
is_last None = false
is_last (Some left) = nat_le left 1

-- what follows, by the period, the firings that are left and the end
abbrev pub next_by : Option Period → Schedule → ℕ → ℕ → Next
next_by None schedule moment now = Done
next_by (Some period) schedule moment now =
    if is_zero period then Done else (
    if is_last schedule.left then Done else
    next_at schedule.«end» schedule.left (following period moment now))

-- what follows when `moment` fires at `now`
abbrev pub next_firing : Schedule → ℕ → ℕ → Next
next_firing schedule moment now = next_by schedule.period schedule moment now

-- the first moment, which may be missing
abbrev pub first_firing : Schedule → Option ℕ
first_firing schedule = schedule.first

-- The firings from `moment` on, at most `most` of them, if each fires in time, at its own moment. Each takes one from
-- the firings that are left.
unfoldable pub firings_from : ℕ → Schedule → ℕ → List ℕ
firings_from zero schedule moment = []
firings_from (suc most) schedule moment =
    moment ∷ elim (next_firing schedule moment moment) [
      | At next left ↦ firings_from most (record schedule { left = left }) next
      | Done ↦ []
      | OutOfRange ↦ []
    ]

abbrev pub firings_by : ℕ → Schedule → Option ℕ → List ℕ
firings_by most schedule None = []
firings_by most schedule (Some first) = firings_from most schedule first

-- the list of moments of a schedule, cut to its first `most`
abbrev pub firing_list : ℕ → Schedule → List ℕ
firing_list most schedule = firings_by most schedule (first_firing schedule)

-- r is the first moment after now among those that follow a moment by one period each
pub data FiresAt (period : Period) (now : ℕ) : ℕ → ℕ → Type 0 where
  Following : (moment next : ℕ) → add_period moment period ≡ Some next → now < next → FiresAt period now moment next
  Missed : (moment missed r : ℕ) → add_period moment period ≡ Some missed → missed ≤ now → FiresAt period now missed r → FiresAt period now moment r

-- there is no such moment: one of them would be past the last moment, and those before it are missed ones
pub data FiringEnds (period : Period) (now : ℕ) : ℕ → Type 0 where
  Past : (moment : ℕ) → add_period moment period ≡ None → FiringEnds period now moment
  Skipped : (moment missed : ℕ) → add_period moment period ≡ Some missed → missed ≤ now → FiringEnds period now missed → FiringEnds period now moment
