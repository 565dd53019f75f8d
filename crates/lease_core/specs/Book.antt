-- The clocks and leases of a cluster, and who sent which request when. Own.
use Rattle.std.specs.Prelude.{ℕ, zero, suc, ◌+◌, Bool, true, false, ◌||◌, nat_le, nat_lt, if◌then◌else◌, List, [], ◌∷◌, ◌++◌, length, slice_get, Option, None, Some}
use Rattle.actor_names.specs.declared.member.Member.{Member}
use Rattle.world_events.specs.declared.event.WorldEvent.{WorldEvent}
use Rattle.world_events.specs.declared.event.WorldEvent.TheVariants as lines
use Rattle.lease_core.specs.declared.book.MemberClock.{MemberClock}
use Rattle.lease_core.specs.declared.book.Sent.{Sent}
use Rattle.lease_core.specs.Lease.{moment_bound, extended, has_ended}

-- The placement's clock; each member's clock and lease, in order of boot; of each message, the boot of the member whose
-- request it is or answers, with that request's sending moment; and of each call, the boot of the member that is called.
pub record LeaseBook : Type 0 where
  pub clock : ℕ
  pub members : List MemberClock
  pub sent : List Sent
  pub askers : List ℕ

-- all clocks begin at 0, and nothing has happened
abbrev pub new_book : LeaseBook
new_book = record { clock = 0; members = []; sent = []; askers = [] }

-- ---- members, by their boot, which counts from 1; messages and calls, by their number, which counts from 1

abbrev pub member_at : List MemberClock → ℕ → Option MemberClock
member_at ms zero = None
member_at ms (suc k) = slice_get ms k

abbrev pub clock_in : Option MemberClock → ℕ
clock_in None = 0
clock_in (Some m) = m.clock

-- the clock of the member of a boot, 0 if there is none
abbrev pub clock_of : List MemberClock → ℕ → ℕ
clock_of ms boot = clock_in (member_at ms boot)

abbrev pub nobody : Sent
nobody = record { boot = 0; moment = 0 }

abbrev pub sent_in : Option Sent → Sent
sent_in None = nobody
sent_in (Some s) = s

-- whose request a message is or answers, and when that was sent
abbrev pub sent_at : List Sent → ℕ → Sent
sent_at ss zero = nobody
sent_at ss (suc k) = sent_in (slice_get ss k)

abbrev pub boot_in : Option ℕ → ℕ
boot_in None = 0
boot_in (Some boot) = boot

-- the boot of the member that a call asks, 0 if there is no such call
abbrev pub asked_at : List ℕ → ℕ → ℕ
asked_at bs zero = 0
asked_at bs (suc k) = boot_in (slice_get bs k)

-- ---- at which member an event happens, and when

-- the boot of the member at which an event happens, 0 for the placement's
abbrev pub place_of : LeaseBook → WorldEvent → ℕ
place_of b (lines.At moment) = 0
place_of b (lines.Boot space node kinds) = suc (length b.members)
place_of b (lines.Beat m) = m.boot
place_of b (lines.Collect m) = m.boot
place_of b (lines.Leave m) = m.boot
place_of b (lines.To k) = 0
place_of b (lines.Part k i) = (sent_at b.sent k).boot
place_of b (lines.Call call m key least chain) = m.boot
place_of b (lines.Poll call) = asked_at b.askers call
place_of b (lines.End call) = asked_at b.askers call
place_of b (lines.Hold m key) = m.boot
place_of b (lines.Release m key) = m.boot
place_of b (lines.Tick m) = m.boot
place_of b (lines.Closing m i) = m.boot
place_of b (lines.Closed m key) = m.boot
place_of b (lines.Stop m i) = m.boot
place_of b (lines.Lost m) = 0
place_of b lines.PlacementTick = 0
place_of b lines.Restart = 0

-- the events of the placement: `to`, `lost`, `ptick` and `restart`
abbrev pub is_placements : WorldEvent → Bool
is_placements (lines.To k) = true
is_placements (lines.Lost m) = true
is_placements lines.PlacementTick = true
is_placements lines.Restart = true
is_placements e = false

-- the moment of an event: by the placement's clock for its own events, by the member's clock otherwise
abbrev pub moment_of : LeaseBook → WorldEvent → ℕ
moment_of b e = if is_placements e then b.clock else clock_of b.members (place_of b e)

-- what is kept of the message that an event adds: the answer to a request is of that request, and a request is sent by
-- its member at that member's clock
abbrev pub sent_by : LeaseBook → WorldEvent → Sent
sent_by b (lines.To k) = sent_at b.sent k
sent_by b e = record { boot = place_of b e; moment = moment_of b e }

-- ---- after an event

-- who boots, with its clock and lease, which begin at 0
abbrev pub begun_by : LeaseBook → WorldEvent → Option MemberClock
begun_by b (lines.Boot space node kinds) = Some (record { member = record { space = space; node = node; boot = suc (length b.members) }; clock = 0; lease = 0 })
begun_by b e = None

abbrev pub with_begun : List MemberClock → Option MemberClock → List MemberClock
with_begun ms None = ms
with_begun ms (Some m) = ms ++ m ∷ []

-- the book after an event that was done, after which there are so many messages and calls
abbrev pub noted : LeaseBook → Option MemberClock → Sent → ℕ → ℕ → ℕ → LeaseBook
noted b begun sent boot messages calls =
    record b {
      members = with_begun b.members begun;
      sent = if nat_lt (length b.sent) messages then b.sent ++ sent ∷ [] else b.sent;
      askers = if nat_lt (length b.askers) calls then b.askers ++ boot ∷ [] else b.askers;
    }

-- ---- the passage of time

-- the clocks moved, members in order of boot
abbrev pub moved : List ℕ → List MemberClock → List MemberClock
moved [] ms = ms
moved (step ∷ steps) [] = []
moved (step ∷ steps) (m ∷ ms) = record { member = m.member; clock = m.clock + step; lease = m.lease } ∷ moved steps ms

-- whether a clock would reach the bound of all moments
abbrev pub is_past : ℕ → ℕ → Bool
is_past clock step = nat_le moment_bound (clock + step)

-- whether one of the members' clocks would
abbrev pub any_past : List ℕ → List MemberClock → Bool
any_past [] ms = false
any_past (step ∷ steps) [] = false
any_past (step ∷ steps) (m ∷ ms) = is_past m.clock step || any_past steps ms

-- StopPart to so many parts of a member, from this number on
abbrev pub stops_of : Member → ℕ → ℕ → List WorldEvent
stops_of m i zero = []
stops_of m i (suc count) = lines.Stop m i ∷ stops_of m (suc i) count

-- the stops of a member with so many parts, if its lease has ended
abbrev pub stops_if_ended : ℕ → MemberClock → List WorldEvent
stops_if_ended parts m = if has_ended m.lease m.clock then stops_of m.member 0 parts else []

-- StopPart to every part of each member whose lease has ended, in order of boot
abbrev pub stops_for : ℕ → List MemberClock → List WorldEvent
stops_for parts [] = []
stops_for parts (m ∷ ms) = stops_if_ended parts m ++ stops_for parts ms

-- ---- an answer

-- the lease of the member at a place, counted from 0, extended by a sending moment
abbrev pub extended_at : List MemberClock → ℕ → ℕ → List MemberClock
extended_at [] k sent = []
extended_at (m ∷ ms) zero sent = record { member = m.member; clock = m.clock; lease = extended m.lease sent } ∷ ms
extended_at (m ∷ ms) (suc k) sent = m ∷ extended_at ms k sent

-- the same of the member of a boot, if there is one
abbrev pub extended_of : List MemberClock → ℕ → ℕ → List MemberClock
extended_of ms zero sent = ms
extended_of ms (suc k) sent = extended_at ms k sent

-- the lease of the member whose request it was, extended by the sending moment of that request
abbrev pub leases_extended : List MemberClock → Sent → List MemberClock
leases_extended ms s = extended_of ms s.boot s.moment
