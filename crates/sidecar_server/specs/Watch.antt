-- The watch over a sidecar: its lease, and why the sidecar has to stop. Own.
use Rattle.std.specs.Prelude.{◌≡◌, ◌==◌, ◌&&◌, ℕ, Bool, if◌then◌else◌, Option, None, Some}
use Rattle.actor_names.specs.Same.{same_member}
use Rattle.actor_ports.specs.Traffic.{Traffic, Dialled}
use Rattle.round_core.specs.declared.event.PlaceReply.{PlaceReply}
use Rattle.round_core.specs.declared.event.PlaceReply.TheVariants as replies
use Rattle.lease_core.specs.Lease.{extended, has_ended}
use Rattle.placement_beats.specs.declared.book.TurnEnd.{TurnEnd}
use Rattle.placement_beats.specs.declared.book.TurnEnd.TheVariants as ends
use Rattle.sidecar_server.specs.declared.watch.Parties.{Parties}
use Rattle.sidecar_server.specs.declared.watch.StopCause.{StopCause}
use Rattle.sidecar_server.specs.declared.watch.StopCause.TheVariants as causes
use Rattle.sidecar_server.specs.declared.watch.WatchEvent.{WatchEvent}
use Rattle.sidecar_server.specs.declared.watch.WatchEvent.TheVariants as events
use Rattle.sidecar_server.specs.Links.{are_same_placements}
use Rattle.sidecar_server.specs.Causes.{journal_full, is_final, IsShown, IsAnswered, IsRefused}

-- whose turns it is told of, the start of the lease, and why the sidecar has to stop
pub record WatchState : Type 0 where
  pub parties : Parties
  pub lease : ℕ
  pub stop : Option StopCause

-- the two are the same
abbrev pub are_same : Parties → Parties → Bool
are_same a b = same_member a.member b.member && are_same_placements a.placement b.placement

abbrev pub new_watch : Parties → ℕ → WatchState
new_watch parties now = record { parties = parties; lease = now; stop = None }

-- the first cause counts
abbrev pub first_cause : Option StopCause → StopCause → Option StopCause
first_cause None cause = Some cause
first_cause (Some first) cause = Some first

-- the lease once a turn of these parties was answered that was begun at this moment; only the watch's own parties count
abbrev pub heard_lease : Parties → ℕ → Parties → ℕ → ℕ
heard_lease own lease parties sent = if are_same parties own then extended lease sent else lease

-- why the sidecar has to stop after a look at this moment
abbrev pub stop_after : ℕ → Option StopCause → ℕ → Option StopCause
stop_after lease stop now = if has_ended lease now then first_cause stop (causes.Silent lease now) else stop

-- the same after a turn of these parties was refused so; only the watch's own parties count
abbrev pub refused_stop : Parties → Option StopCause → Parties → PlaceReply → Option StopCause
refused_stop own stop parties reply = if are_same parties own then first_cause stop (causes.Refused reply) else stop

-- what the watch is told of a turn that was refused so
abbrev pub refusal_event : Parties → PlaceReply → ℕ → Option WatchEvent
refusal_event parties (replies.NodeBusy boot) sent = Some (events.Answered parties sent)
refusal_event parties reply sent = if is_final reply then Some (events.Refused parties reply) else None

-- what the watch is told of a turn that was begun at this moment and ended so: nothing, if it failed
abbrev pub turn_event : Parties → TurnEnd → ℕ → Option WatchEvent
turn_event parties ends.Next sent = Some (events.Answered parties sent)
turn_event parties (ends.Refused reply) sent = refusal_event parties reply sent
turn_event parties (ends.NodeRefused code number) sent = if code == journal_full then Some (events.Answered parties sent) else None
turn_event parties end sent = None

-- Only moments at which a turn was begun that was answered, moments that a clock showed, and final refusals that ended a
-- turn are its events.
abbrev pub WatchTakes : {N L K : Type 0} → (N → Option Dialled) → (L → Option Traffic) → (K → ℕ) → WatchEvent → Type 0
WatchTakes dialled traffic shown (events.Answered parties sent) = IsAnswered dialled traffic shown parties sent
WatchTakes dialled traffic shown (events.Look now) = IsShown shown now
WatchTakes dialled traffic shown (events.Refused parties reply) = IsRefused dialled traffic shown parties reply

-- What an event does to the watch: an answer extends the lease, and only turns of the watch's own parties count.
abbrev pub watch_after : WatchState → WatchEvent → WatchState
watch_after w (events.Answered parties sent) = record w { lease = heard_lease w.parties w.lease parties sent }
watch_after w (events.Look now) = record w { stop = stop_after w.lease w.stop now }
watch_after w (events.Refused parties reply) = record w { stop = refused_stop w.parties w.stop parties reply }

-- the answer is why the sidecar has to stop
abbrev pub WatchMoves : WatchState → WatchEvent → Option StopCause → WatchState → Type 0
WatchMoves old event reply new = (new ≡ watch_after old event) × (reply ≡ new.stop)
