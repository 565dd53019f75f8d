-- A cluster whose placement and members have clocks of their own, and whose members hold leases. Own.
use Rattle.std.specs.Prelude.{◌≡◌, ◌⊎◌, ℕ, ◌+◌, Bool, true, false, ◌||◌, nat_lt, suc, slice_get, if◌then◌else◌, List, [], ◌∷◌, length, Option, None, Some, Result, Ok, Err}
use Rattle.actor_names.specs.declared.member.Member.{Member}
use Rattle.actor_names.specs.declared.actor_key.ActorKey.{ActorKey}
use Rattle.place_table.specs.declared.host.HostInfo.{HostInfo}
use Rattle.place_table.specs.Hosts.{PlacementTable}
use Rattle.turn_core.specs.CellSound.{In}
use Rattle.part_model.specs.Part.{PartState, ring_owner}
use Rattle.placement_core.specs.Placement.{late_in}
use Rattle.world_events.specs.declared.settings.WorldSettings.{WorldSettings}
use Rattle.world_events.specs.declared.event.WorldEvent.{WorldEvent}
use Rattle.world_events.specs.declared.event.WorldEvent.TheVariants as lines
use Rattle.world_events.specs.declared.outcome.Outcome.{Outcome}
use Rattle.world_events.specs.declared.error.WorldError.{WorldError}
use Rattle.cluster_model.specs.World.{ClusterState, WorldStep, CallPlace, key_part, most_events, call_at, opening_cluster, cluster_run}
use Rattle.cluster_model.specs.Invariant.{AllStopped}
use Rattle.cluster_model.specs.Messages.{Message, named_in}
use Rattle.world_run.specs.Looks.{asks_at}
use Rattle.world_run.specs.Moments.{event_at}
use Rattle.world_run.specs.Worlds.{WorldView, view_of}
use Rattle.lease_core.specs.declared.book.MemberClock.{MemberClock}
use Rattle.lease_core.specs.declared.book.Sent.{Sent}
use Rattle.lease_core.specs.declared.error.LeaseError.{LeaseError}
use Rattle.lease_core.specs.declared.error.LeaseError.TheVariants as errors
use Rattle.lease_core.specs.declared.event.LeaseEvent.{LeaseEvent}
use Rattle.lease_core.specs.declared.event.LeaseEvent.TheVariants as events
use Rattle.lease_core.specs.Causes.{cause_of}
use Rattle.lease_core.specs.Lease.{bad_rate}
use Rattle.lease_core.specs.Book.{LeaseBook, new_book, sent_at, asked_at, place_of, moment_of, sent_by, begun_by, noted, moved, is_past, any_past, stops_for, leases_extended}

-- a cluster, and its book of clocks and leases
pub record LeasedCluster : Type 0 where
  pub world : ClusterState
  pub book : LeaseBook

-- the leased cluster after an event, and what comes of it, or why it is refused; a refusal changes nothing
pub record LeasedStep : Type 0 where
  pub cluster : LeasedCluster
  pub outcome : Result (Option Outcome) LeaseError

abbrev pub opening_leased : WorldSettings → LeasedCluster
opening_leased settings = record { world = opening_cluster settings; book = new_book }

abbrev pub refuse : LeasedCluster → LeaseError → LeasedStep
refuse c error = record { cluster = c; outcome = Err error }

abbrev pub is_at : WorldEvent → Bool
is_at (lines.At moment) = true
is_at e = false

-- whether a message is there and is a reply, from whether it is a request
abbrev pub is_reply : Option Bool → Bool
is_reply None = false
is_reply (Some true) = false
is_reply (Some false) = true

-- an answer of the placement reaches the member that it answers, whose lease it extends
abbrev pub answered : LeasedCluster → ℕ → LeasedStep
answered c k =
    if is_reply (asks_at c.world.messages k)
    then record { cluster = record c { book = record (c.book) { members = leases_extended c.book.members (sent_at c.book.sent k) } }; outcome = Ok None }
    else refuse c errors.NoReply

-- what comes of an event of the world, once the world has taken it
abbrev pub step_noted : LeasedCluster → WorldEvent → ClusterState → Result Outcome WorldError → LeasedStep
step_noted c e world (Ok outcome) =
    record {
      cluster = record { world = world; book = noted c.book (begun_by c.book e) (sent_by c.book e) (place_of c.book e) (length world.messages) (length world.calls) };
      outcome = Ok (Some outcome);
    }
step_noted c e world (Err error) = record { cluster = record c { world = world }; outcome = Err (cause_of error) }

-- The owner of an actor in a table, and its part among a number of parts, are parameters of what follows.
module _ (owner : PlacementTable → ActorKey → Option HostInfo) (part_of : ActorKey → ℕ → ℕ) where
  -- an event of the world at its moment
  abbrev pub stepped : LeasedCluster → WorldEvent → LeasedStep
  stepped c e =
      let s = event_at owner part_of c.world e (moment_of c.book e) in
      if is_at e then refuse c errors.HasAt else step_noted c e s.world s.outcome

  -- time passes: the clocks go forward by these steps, and then every part of each member whose lease has ended is given
  -- StopPart
  abbrev pub passed : LeasedCluster → ℕ → List ℕ → LeasedStep
  passed c placement steps =
      let members = moved steps c.book.members in
      record {
        cluster = record {
          world = cluster_run owner part_of c.world (stops_for c.world.settings.parts members);
          book = record (c.book) { clock = c.book.clock + placement; members = members };
        };
        outcome = Ok None;
      }

  -- the same, unless a step isn't within the rates, or a clock would reach the bound of moments, or the stops, each
  -- counted as one event, would pass the greatest number of events
  abbrev pub passes : LeasedCluster → ℕ → List ℕ → Option ℕ → LeasedStep
  passes c placement steps (Some at) = refuse c (errors.BadRate at)
  passes c placement steps None =
      if is_past c.book.clock placement || any_past steps c.book.members then refuse c errors.Clock
      else (if nat_lt most_events (c.world.events + length (stops_for c.world.settings.parts (moved steps c.book.members))) then refuse c (errors.Spent c.world.events) else passed c placement steps)

  abbrev pub leased_step : LeasedCluster → LeaseEvent → LeasedStep
  leased_step c (events.Pass placement steps) = passes c placement steps (bad_rate placement steps (length c.book.members))
  leased_step c (events.Step e) = stepped c e
  leased_step c (events.Answer k) = answered c k

  abbrev pub leased_run : LeasedCluster → List LeaseEvent → LeasedCluster
  leased_run c [] = c
  leased_run c (e ∷ es) = leased_run (leased_step c e).cluster es

-- ---- what a lease world shows

pub record LeaseView : Type 0 where
  pub world : WorldView
  pub book : LeaseBook

-- the view of a leased cluster
abbrev pub leased_view : LeasedCluster → LeaseView
leased_view c = record { world = view_of c.world; book = c.book }

-- what a step gives: the outcome and the view of the step's cluster, or out of memory and no change
abbrev pub GivesLeased : Result (Option Outcome) LeaseError → LeaseView → LeasedStep → LeaseView → Type 0
GivesLeased result old step new = ((result ≡ Err errors.OutOfMemory) × (new ≡ old)) ⊎ ((result ≡ step.outcome) × (new ≡ leased_view step.cluster))

-- the same of a step that takes no memory
abbrev pub IsLeasedStep : Result (Option Outcome) LeaseError → LeasedStep → LeaseView → Type 0
IsLeasedStep result step new = (result ≡ step.outcome) × (new ≡ leased_view step.cluster)

-- a run of events from the opening cluster leads to this view
pub record IsReachedLease (v : LeaseView) : Type 0 where
  pub settings : WorldSettings
  pub events : List LeaseEvent
  pub leads : v ≡ leased_view (leased_run ring_owner key_part (opening_leased settings) events)

-- The book is that of the world: its members are in order of boot, each message has the boot of the member that it names,
-- and each call that was taken has that of the member at whose part it stands.
pub record IsBookOf (w : ClusterState) (b : LeaseBook) : Type 0 where
  pub members : length b.members ≡ w.boots
  pub boots : (k : ℕ) (m : MemberClock) → slice_get b.members k ≡ Some m → m.member.boot ≡ suc k
  pub sent : length b.sent ≡ length w.messages
  pub senders : (k : ℕ) (x : Message) (s : Sent) → slice_get w.messages k ≡ Some x → slice_get b.sent k ≡ Some s → s.boot ≡ (named_in x).boot
  pub calls : length b.askers ≡ length w.calls
  pub asked : (call : ℕ) (x : CallPlace) → call_at w.calls call ≡ Some x → (p : PartState) × (slice_get w.parts x.place ≡ Some p) × (asked_at b.askers call ≡ p.member.boot)

-- The fail-stop premise, of the placement's next Tick: each member that it would drop has only stopped parts.
abbrev pub LateAreStopped : LeasedCluster → Type 0
LateAreStopped c = (m : Member) → In m (late_in c.world.placement.rooms c.book.clock) → AllStopped c.world.parts m

-- only a `lost` by hand is refused because it names a running member
abbrev pub OnlyLostIsDishonest : LeaseEvent → Result (Option Outcome) LeaseError → Type 0
OnlyLostIsDishonest e result = (m : Member) → result ≡ Err (errors.Dishonest m) → e ≡ events.Step (lines.Lost m)
