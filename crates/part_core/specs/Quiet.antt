-- Until when no actor of a part may be idle. Own.
use Rattle.std.specs.Prelude.{◌≡◌, ℕ, ◌+◌, ◌-◌, ◌^◌, ◌≤◌, min, Bool, true, false, not, ◌&&◌, ◌==◌, nat_lt, if◌then◌else◌, List, [], ◌∷◌, Option, None, Some}
use Rattle.turn_core.specs.Cell.{is_free}
use Rattle.turn_core.specs.CellSound.{In}
use Rattle.part_model.specs.declared.actor_cell.ActorCell.{ActorCell}
use Rattle.part_cells.specs.Slots.{least_of}
use Rattle.part_model.specs.declared.settings.TypeSettings.{TypeSettings}
use Rattle.part_model.specs.declared.stage.Stage.{Stage}
use Rattle.part_model.specs.declared.stage.Stage.TheVariants.{Locked, Updated, Open, Stopped}
use Rattle.part_model.specs.declared.event.PartEvent.{PartEvent}
use Rattle.part_model.specs.declared.event.PartEvent.TheVariants as events
use Rattle.part_model.specs.Receipts.{PartReply}
use Rattle.part_model.specs.declared.event.Reply.TheVariants as replies
use Rattle.part_model.specs.Settings.{settings_of}
use Rattle.part_model.specs.Part.{PartState, is_drained, ring_owner}

-- whether the actor is active and not closing, and has no open turn and no hold
abbrev pub is_resting : ActorCell → Bool
is_resting c = (c.active && not c.closing) && (is_free c.inner && (c.inner.holds == 0))

-- From which moment on an actor of this idle time may be idle, if its last turn or hold ended at `last`. With an idle
-- time of 0 it always may, also if the clock went back.
abbrev pub idle_from : ℕ → ℕ → ℕ
idle_from idle last = if idle == 0 then 0 else min (last + idle) (2 ^ 64 - 1)

abbrev pub idle_moment : List TypeSettings → ActorCell → ℕ
idle_moment kinds c = idle_from (settings_of kinds c.key.kind).idle_ms c.last

-- no resting actor may be idle before this moment
abbrev pub IsQuietUntil : PartState → ℕ → Type 0
IsQuietUntil p q = (c : ActorCell) → In c p.cells → is_resting c ≡ true → q ≤ idle_moment p.kinds c

-- ---- what an event leaves of such a moment

-- the least of a number and the idle times of these types
abbrev pub least_or : ℕ → List TypeSettings → ℕ
least_or n [] = n
least_or n (t ∷ ts) = least_or (min n t.idle_ms) ts

-- the least idle time of all types; that of a type that isn't listed is 3,600,000 milliseconds
abbrev pub least_idle : List TypeSettings → ℕ
least_idle ts = least_or 3600000 ts

-- the moment at which turns or holds may end by an event
abbrev pub rest_moment : PartEvent → Option ℕ
rest_moment (events.End call now) = Some now
rest_moment (events.Release key now) = Some now
rest_moment (events.Tick now) = Some now
rest_moment _ = None

abbrev pub lowered_by : List TypeSettings → ℕ → Option ℕ → ℕ
lowered_by kinds q None = q
lowered_by kinds q (Some now) = min q (idle_from (least_idle kinds) now)

abbrev pub lowered : List TypeSettings → PartEvent → ℕ → ℕ
lowered kinds event q = lowered_by kinds q (rest_moment event)

-- ---- what a pass over all cells finds

-- from which moment on the actor may be idle; never, if it doesn't rest
abbrev pub rest_end : List TypeSettings → ActorCell → ℕ
rest_end kinds c = if is_resting c then idle_moment kinds c else 2 ^ 64 - 1

abbrev pub first_idle : PartState → ℕ
first_idle p = least_of (rest_end p.kinds) p.cells

-- a part that found no actor to deactivate looks when the first may be idle
abbrev pub quiet_after : PartState → PartReply → ℕ → ℕ
quiet_after p replies.NoneClosing q = first_idle p
quiet_after p _ q = q

-- ---- when an actor is asked for too early

-- whether the event asks for an actor to deactivate before this moment
abbrev pub is_early : PartEvent → ℕ → Bool
is_early (events.TakeClosing now) q = nat_lt now q
is_early _ q = false

-- whether a part of this stage runs, and has no active actor to give up to another owner
abbrev pub gives_none_at : PartState → Stage → Bool
gives_none_at p Locked = true
gives_none_at p Updated = is_drained ring_owner p
gives_none_at p Open = true
gives_none_at p Stopped = false

abbrev pub gives_none : PartState → Bool
gives_none p = gives_none_at p p.stage
